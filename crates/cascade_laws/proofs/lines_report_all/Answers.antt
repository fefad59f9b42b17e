use Rattle.cascade_laws.proofs.Traces.{runs_traced}
use Rattle.cascade_laws.proofs.lines_report_all.Goals as goal

pub returns : goal.returns
returns c = runs_traced
