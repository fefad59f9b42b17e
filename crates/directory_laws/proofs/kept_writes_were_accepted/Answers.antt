use Rattle.directory_laws.proofs.Histories.{WereAccepted-kept}
use Rattle.directory_laws.proofs.kept_writes_were_accepted.Goals as goal

pub returns : goal.returns
returns c = WereAccepted-kept
