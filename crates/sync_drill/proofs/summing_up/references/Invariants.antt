use Rattle.std.proofs.Common.{◌≡◌, map, take}
use Rattle.sync_drill.proofs.summing_up.references.Given as goal

-- those of the entries so far
abbrev pub invariant-loop-entry : goal.invariant-loop-entry
invariant-loop-entry l = map (λ e. e.now) l.list.items ≡ take l.entry-index l.entries
