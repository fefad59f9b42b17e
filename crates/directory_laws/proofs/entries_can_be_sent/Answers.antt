use Rattle.directory_laws.proofs.Histories.{sent-state_of}
use Rattle.directory_laws.proofs.entries_can_be_sent.Goals as goal

pub returns : goal.returns
returns c = λ suffix history writes accepted number. sent-state_of suffix history writes number accepted
