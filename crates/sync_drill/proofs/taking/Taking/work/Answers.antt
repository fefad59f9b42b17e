use Rattle.sync_drill.proofs.TakingSteps.{taking-stays}
use Rattle.sync_drill.proofs.taking.Taking.work.Goals as goal

pub returns-in_default : goal.returns-in_default
returns-in_default g c = taking-stays c.args.self c.requires
