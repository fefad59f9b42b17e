use Rattle.sync_model.proofs.Later as law
use Rattle.sync_model.proofs.later_ends.Goals as goal

pub returns : goal.returns
returns c = λ operation ascending id from count cookie ended. law.later_ends operation ascending count id from cookie ended
