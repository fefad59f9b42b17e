use Rattle.refresh_delete.proofs.Deciding.{planned-pieces}
use Rattle.refresh_delete.proofs.planning.slices_make_the_plan.Goals as goal

pub returns : goal.returns
returns c after pieces = planned-pieces after pieces
