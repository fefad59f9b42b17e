use Rattle.std.proofs.Common.{refl, arith}
use Rattle.sync_drill.proofs.threads.port_of.Goals as goal

pub returns : goal.returns
returns g c = record { its_port = refl; none_left = omega (arith, c.if-left-gt0.false); unit = c.if-needs_unit.false }
