use Rattle.std.proofs.Common.{arith}
use Rattle.drill_directory.proofs.drilling.drilled.Goals as goal

pub overflow_add-count : goal.overflow_add-count
overflow_add-count g c = omega (arith, c.requires.plan.writers.1, c.requires.plan.consumers.1)

pub new_directory-requires : goal.new_directory-requires
new_directory-requires g c = (omega (arith, c.requires.plan.writers.0), omega (arith, c.requires.plan.writers.1, c.requires.plan.consumers.1))

pub drilled_at_desks-requires-clause-plan : goal.drilled_at_desks-requires-clause-plan
drilled_at_desks-requires-clause-plan g c κs within = c.requires.plan

pub drilled_at_desks-requires-clause-count : goal.drilled_at_desks-requires-clause-count
drilled_at_desks-requires-clause-count g c κs within = c.in_ok-made.ensures.count

pub drilled_at_desks-requires-clause-new : goal.drilled_at_desks-requires-clause-new
drilled_at_desks-requires-clause-new g c κs within = c.in_ok-made.ensures.new
