use Rattle.std.proofs.Common.{refl, arith}
use Rattle.std.specs.List.Sorted.{IsStrictlySortedBy}
use Rattle.shared_map.proofs.ordered.SharedMap.new.Goals as goal

pub invariant_of-result : goal.invariant_of-result
unfolding IsStrictlySortedBy
invariant_of-result g c = (tt, refl, omega arith)
