use Rattle.std.proofs.Common.{ℕ, ◌≤◌, length, drop}
use Rattle.entry_tree.specs.NameIndex.{HasPathKey}
use Rattle.sync_consumer.specs.Holding.{NotesAll}
use Rattle.sync_consumer.specs.Staging.{changes_in, entry_staged}
use Rattle.sync_consumer.proofs.names.note_each.Given as goal

-- the names that the changes from this one on put are noted, and have path keys
abbrev pub invariant-loop-left : goal.invariant-loop-left
invariant-loop-left l = record {
  within : l.left ≤ length l.changes;
  noted : NotesAll l.held l.fn.names l.names (changes_in (drop l.left l.changes)) l.has_unique_names;
  pathed : (uuid : ℕ) → HasPathKey (entry_staged (changes_in (drop l.left l.changes)) uuid);
}

abbrev pub decreases-loop-left : goal.decreases-loop-left
decreases-loop-left l = l.left
