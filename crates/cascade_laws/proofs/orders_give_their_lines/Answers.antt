use Rattle.cascade_laws.proofs.Reported.{runs_reported}
use Rattle.cascade_laws.proofs.orders_give_their_lines.Goals as goal

pub returns : goal.returns
returns c = runs_reported
