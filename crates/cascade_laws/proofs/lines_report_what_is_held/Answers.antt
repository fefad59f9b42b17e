use Rattle.cascade_laws.proofs.HeadlineHolds.{runs_held}
use Rattle.cascade_laws.proofs.lines_report_what_is_held.Goals as goal

pub returns : goal.returns
returns c = runs_held
