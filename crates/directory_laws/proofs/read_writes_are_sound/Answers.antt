use Rattle.directory_laws.proofs.ReadWrites.{gives-change}
use Rattle.directory_laws.proofs.read_writes_are_sound.Goals as goal

pub returns : goal.returns
returns c = gives-change
