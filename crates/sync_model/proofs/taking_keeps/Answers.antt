use Rattle.sync_model.proofs.Keeping as law
use Rattle.sync_model.proofs.taking_keeps.Goals as goal

pub returns : goal.returns
returns c = λ id copy message. law.taking_keeps id copy message
