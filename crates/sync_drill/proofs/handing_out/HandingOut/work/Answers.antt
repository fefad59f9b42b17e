use Rattle.sync_drill.proofs.HandingSteps.{handing-stays}
use Rattle.sync_drill.proofs.handing_out.HandingOut.work.Goals as goal

pub returns-in_default : goal.returns-in_default
returns-in_default g c = handing-stays g.P.Port.home g.P.Port.state c.args.self c.requires
