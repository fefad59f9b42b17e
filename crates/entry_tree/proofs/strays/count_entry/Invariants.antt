use Rattle.std.proofs.Common.{◌≡◌, ◌<◌, ◌+◌, ℕ, take}
use Rattle.std.specs.Prelude.{slice_index}
use Rattle.std.specs.List.{sum_by}
use Rattle.entry_tree.specs.Pinned.{type_count}
use Rattle.entry_tree.proofs.Counting.{astray}
use Rattle.entry_tree.proofs.strays.count_entry.Given as goal

-- the attributes so far are counted
abbrev pub invariant-loop-attribute : goal.invariant-loop-attribute
invariant-loop-attribute l =
    (kind : ℕ) → kind < type_count → slice_index l.strays kind ≡ slice_index l.initial.strays kind + sum_by (astray kind l.own) (take l.attribute-index l.attribute-items)
