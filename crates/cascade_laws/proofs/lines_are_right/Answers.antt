use Rattle.cascade_laws.proofs.HeadlineHolds.{runs_lines_right}
use Rattle.cascade_laws.proofs.lines_are_right.Goals as goal

pub returns : goal.returns
returns c = runs_lines_right
