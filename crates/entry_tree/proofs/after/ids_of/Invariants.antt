use Rattle.std.proofs.Common.{◌≡◌, [], take}
use Rattle.entry_writes.specs.Touched.{identities, joined}
use Rattle.entry_tree.proofs.after.ids_of.Given as goal

-- the identities of the entries so far are in the set
abbrev pub invariant-loop-entry : goal.invariant-loop-entry
invariant-loop-entry l = l.uuids.keys ≡ joined (joined [] l.drops) (identities (take l.entry-index l.puts))
