use Rattle.std.proofs.Common.{◌≡◌, Bor, map, take}
use Rattle.entry_tree.specs.declared.entry.Entry.{Entry}
use Rattle.sync_model.specs.Copy.{puts_of}
use Rattle.sync_consumer.specs.Staging.{changes_in}
use Rattle.sync_consumer.proofs.weighed.entries_of.Given as goal

-- the entries that the changes so far put are there
abbrev pub invariant-loop-change : goal.invariant-loop-change
invariant-loop-change l = map (λ (e : Bor Entry). e.now) l.entries.items ≡ puts_of (changes_in (take l.change-index l.changes))
