use Rattle.std.proofs.Common.{◌≡◌, take}
use Rattle.std.specs.Prelude.{fold}
use Rattle.entry_writes.specs.Touched.{drops_of}
use Rattle.entry_tree.proofs.ByIdentity.{taken_out}
use Rattle.entry_tree.proofs.put.remove_each.Given as goal

-- what the changes so far leave without an entry is taken out
abbrev pub invariant-loop-change : goal.invariant-loop-change
invariant-loop-change l = l.entries ≡ fold taken_out l.initial.entries (drops_of (take l.change-index l.changes))
