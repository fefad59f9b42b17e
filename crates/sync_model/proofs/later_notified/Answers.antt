use Rattle.sync_model.proofs.Incremental as law
use Rattle.sync_model.proofs.later_notified.Goals as goal

pub returns : goal.returns
returns c = λ operation before. law.group_about operation before
