use Rattle.std.proofs.Common.{◌≡◌, ◌<◌, ℕ, take}
use Rattle.std.specs.Prelude.{slice_index}
use Rattle.entry_tree.specs.Pinned.{strays_after, type_count}
use Rattle.entry_tree.proofs.strays.strays_after.Given as goal

-- the numbers are those of the changes so far
abbrev pub invariant-loop-change : goal.invariant-loop-change
invariant-loop-change l = (kind : ℕ) → kind < type_count → slice_index l.strays kind ≡ strays_after kind (take l.change-index l.changes)
