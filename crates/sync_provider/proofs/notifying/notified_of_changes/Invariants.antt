use Rattle.std.proofs.Common.{◌≡◌, take}
use Rattle.entry_tree.specs.Selection.{search_of}
use Rattle.sync_provider.specs.Staging.{notified_of_changes}
use Rattle.sync_provider.proofs.notifying.notified_of_changes.Given as goal

-- the touches so far are reported
abbrev pub invariant-loop-entry_change : goal.invariant-loop-entry_change
invariant-loop-entry_change l = l.messages.items ≡ notified_of_changes (search_of l.search) (take l.entry_change-index l.touched)
