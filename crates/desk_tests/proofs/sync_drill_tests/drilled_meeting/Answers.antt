use Rattle.std.proofs.Common.{arith}
use Rattle.desk_tests.proofs.sync_drill_tests.drilled_meeting.Goals as goal

pub overflow_add-count : goal.overflow_add-count
overflow_add-count g c = omega (arith, c.requires.plan.writers.1, c.requires.plan.consumers.1)

pub new_directory-requires : goal.new_directory-requires
new_directory-requires g c = (omega (arith, c.requires.plan.writers.0), omega (arith, c.requires.plan.writers.1, c.requires.plan.consumers.1))

pub drilled_meeting_at-requires-clause-plan : goal.drilled_meeting_at-requires-clause-plan
drilled_meeting_at-requires-clause-plan g c κs within = c.requires.plan

pub drilled_meeting_at-requires-clause-count : goal.drilled_meeting_at-requires-clause-count
drilled_meeting_at-requires-clause-count g c κs within = c.in_ok-made.ensures.count

pub drilled_meeting_at-requires-clause-new : goal.drilled_meeting_at-requires-clause-new
drilled_meeting_at-requires-clause-new g c κs within = c.in_ok-made.ensures.new
