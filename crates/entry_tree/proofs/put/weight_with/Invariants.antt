use Rattle.std.proofs.Common.{◌≡◌, ◌+◌, take}
use Rattle.entry_writes.specs.Touched.{weight_before, weight_after}
use Rattle.entry_tree.proofs.put.weight_with.Given as goal

-- what the changes so far take away has gone, and what they bring has come
abbrev pub invariant-loop-change : goal.invariant-loop-change
invariant-loop-change l =
    l.weight + weight_before (take l.change-index l.changes) ≡ l.total + weight_after (take l.change-index l.changes)
