use Rattle.std.proofs.Common.{refl}
use Rattle.sync_drill.proofs.drilling.parts_of.Goals as goal

pub returns : goal.returns
returns g c = record { port = refl; copy = refl; ends = refl }
