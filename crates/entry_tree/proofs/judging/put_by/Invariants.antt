use Rattle.std.proofs.Common.{◌≡◌, map, take}
use Rattle.entry_writes.specs.Touched.{puts_of}
use Rattle.entry_tree.proofs.judging.put_by.Given as goal

-- the entries that the changes so far leave or make are there
abbrev pub invariant-loop-change : goal.invariant-loop-change
invariant-loop-change l = map (λ e. e.now) l.put.items ≡ puts_of (take l.change-index l.changes)
