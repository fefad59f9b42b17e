use Rattle.std.proofs.Common.{◌≡◌, take}
use Rattle.std.specs.List.{flat_map}
use Rattle.entry_tree.specs.Touched.{joined}
use Rattle.sync_model.specs.Incremental.{about}
use Rattle.sync_provider.proofs.changed_set.ChangedSet.with_each.Given as goal

-- what the messages so far are about is in it
abbrev pub invariant-loop-message : goal.invariant-loop-message
invariant-loop-message l = l.set ≡ joined l.self (flat_map about (take l.message-index l.messages))
