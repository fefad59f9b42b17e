use Rattle.directory_laws.proofs.Histories.{WereAccepted-push}
use Rattle.directory_laws.proofs.accepted_writes_grow.Goals as goal

pub returns : goal.returns
returns c = WereAccepted-push
