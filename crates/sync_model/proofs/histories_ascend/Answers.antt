use Rattle.sync_model.proofs.Histories.{ascends-state_of}
use Rattle.sync_model.proofs.histories_ascend.Goals as goal

pub returns : goal.returns
returns c = λ history writes number. ascends-state_of history writes number
