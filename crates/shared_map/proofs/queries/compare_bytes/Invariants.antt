-- What is left compares as the whole does.
use Rattle.std.proofs.Common.{◌≡◌, length}
use Rattle.std.specs.Cmp.Lexicographic.{slice_cmp}
use Rattle.std.specs.Ordering.{nat_cmp}
use Rattle.shared_map.proofs.queries.compare_bytes.Given as goal

abbrev pub invariant-loop-number : goal.invariant-loop-number
invariant-loop-number l = slice_cmp nat_cmp l.one l.other ≡ slice_cmp nat_cmp l.left l.right

abbrev pub decreases-loop-number : goal.decreases-loop-number
decreases-loop-number l = length l.one
