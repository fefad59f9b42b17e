use Rattle.std.proofs.Common.{refl}
use Rattle.sync_drill.proofs.handing_out.asked.Goals as goal

pub returns : goal.returns
returns c = record { id = refl; spec = c.in_ok-spec.ensures; control = c.in_ok-control.ensures }
