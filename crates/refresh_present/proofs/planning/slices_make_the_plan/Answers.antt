use Rattle.refresh_present.proofs.Deciding.{planned-pieces}
use Rattle.refresh_present.proofs.planning.slices_make_the_plan.Goals as goal

pub returns : goal.returns
returns c after pieces = planned-pieces after pieces
