use Rattle.std.proofs.Common.{◌≡◌, take}
use Rattle.entry_tree.specs.Touched.{joined}
use Rattle.sync_consumer.proofs.named.Named.with.Given as goal

-- the identities so far have joined the others
abbrev pub invariant-loop-uuid : goal.invariant-loop-uuid
invariant-loop-uuid l = l.named ≡ joined l.self (take l.uuid-index l.uuids)
