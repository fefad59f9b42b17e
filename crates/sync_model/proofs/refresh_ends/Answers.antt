use Rattle.sync_model.proofs.Refresh as law
use Rattle.sync_model.proofs.refresh_ends.Goals as goal

pub returns : goal.returns
returns c = λ operation asc id start accepted pieces copy cut begins. law.refresh_ends operation asc id start accepted pieces copy cut begins
