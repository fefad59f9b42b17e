use Rattle.directory_laws.proofs.Writing.{sent-effect}
use Rattle.directory_laws.proofs.writes_keep_entries.Goals as goal

pub returns : goal.returns
returns c = sent-effect
