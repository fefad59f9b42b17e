use Rattle.std.proofs.Common.{◌≡◌, ◌-◌, ◌^◌, min, map, take}
use Rattle.entry_writes.specs.State.{total_weight}
use Rattle.entry_tree.proofs.held.total_weight.Given as goal

-- the entries so far are weighed
abbrev pub invariant-loop-entry : goal.invariant-loop-entry
invariant-loop-entry l = l.total ≡ min (total_weight (map (λ e. e.now) (take l.entry-index l.entries))) (2 ^ 64 - 1)
