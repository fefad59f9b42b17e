use Rattle.std.proofs.Common.{◌≡◌, ℕ, ◌||◌, List, take}
use Rattle.std.specs.Prelude.{All}
use Rattle.entry_tree.specs.NameIndex.{stands_at, comes, BringsPathKey, HasNoEmpty}
use Rattle.entry_tree.proofs.reindex.note_each.Given as goal

-- the names of the changes so far are noted
abbrev pub invariant-loop-change : goal.invariant-loop-change
invariant-loop-change l = record {
  noted : (path : List ℕ) (uuid : ℕ) → stands_at l.names path uuid ≡ (comes path uuid (take l.change-index l.changes) || stands_at l.initial.names path uuid);
  placed : All BringsPathKey (take l.change-index l.changes);
  some : HasNoEmpty l.names;
}
