use Rattle.std.proofs.Common.{◌≡◌, ℕ, ◌&&◌, not, List, take}
use Rattle.entry_tree.specs.NameIndex.{stands_at, goes, HasNoEmpty}
use Rattle.entry_tree.proofs.reindex.forget_each.Given as goal

-- what the changes so far take away is gone
abbrev pub invariant-loop-change : goal.invariant-loop-change
invariant-loop-change l = record {
  gone : (path : List ℕ) (uuid : ℕ) → stands_at l.names path uuid ≡ (not (goes path uuid (take l.change-index l.changes)) && stands_at l.initial.names path uuid);
  some : HasNoEmpty l.names;
}
