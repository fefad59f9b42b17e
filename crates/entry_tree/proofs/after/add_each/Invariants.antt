use Rattle.std.proofs.Common.{◌≡◌, take}
use Rattle.entry_writes.specs.Touched.{joined}
use Rattle.entry_tree.proofs.after.add_each.Given as goal

-- the identities so far are in the set
abbrev pub invariant-loop-uuid : goal.invariant-loop-uuid
invariant-loop-uuid l = l.set.keys ≡ joined l.initial.set.keys (take l.uuid-index l.uuids)
