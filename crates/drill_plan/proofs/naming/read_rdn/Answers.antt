use Rattle.drill_plan.proofs.ReadNames.{only_memory}
use Rattle.drill_plan.proofs.naming.read_rdn.Goals as goal

pub no_memory-requires : goal.no_memory-requires
no_memory-requires c = only_memory _ c.requires.0 _ c.requires.1 c.in-Err.ensures.fault
