use Rattle.directory_laws.proofs.Histories.{WereAccepted-prefix}
use Rattle.directory_laws.proofs.prefixes_were_accepted.Goals as goal

pub returns : goal.returns
returns c = WereAccepted-prefix
