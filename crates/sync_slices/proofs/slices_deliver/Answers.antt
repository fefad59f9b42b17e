use Rattle.sync_slices.proofs.Turns as law
use Rattle.sync_slices.proofs.slices_deliver.Goals as goal

pub returns : goal.returns
returns c = λ r some turns. law.slices_deliver r some turns
