use Rattle.std.proofs.Common.{arith}
use Rattle.shared_map.proofs.ordered.count_without.Goals as goal

pub overflow_sub-result : goal.overflow_sub-result
overflow_sub-result c = let some = c.requires c.if-was_there.true in omega arith
