use Rattle.directory_laws.proofs.Sending.{IsReadAgain-sent}
use Rattle.directory_laws.proofs.sent_is_read_again.Goals as goal

pub returns : goal.returns
returns c = IsReadAgain-sent
