use Rattle.drill_plan.proofs.ReadNames.{only_memory, same_read, within}
use Rattle.drill_plan.proofs.naming.name_below.Goals as goal

pub no_memory-requires : goal.no_memory-requires
no_memory-requires c = only_memory _ _ _ (within c.args.rdn.now c.args.name.now c.requires) c.in-Err.ensures.fault

pub returns-in-Ok : goal.returns-in-Ok
returns-in-Ok c = same_read _ _ _ c.in-Ok.ensures.ok (within c.args.rdn.now c.args.name.now c.requires)
