use Rattle.std.proofs.Common.{arith}
use Rattle.desk_tests.proofs.sync_drill_tests.writers_work_beside_each_other.Goals as goal

pub drilled_meeting-requires-clause-plan : goal.drilled_meeting-requires-clause-plan
drilled_meeting-requires-clause-plan c κs within = record {
  writers = (omega arith, omega arith);
  consumers = (omega arith, omega arith);
  size = (omega arith, omega arith);
}
