use Rattle.std.proofs.Common.{◌≡◌, [], take}
use Rattle.std.specs.List.{flat_map}
use Rattle.entry_writes.specs.Touched.{joined}
use Rattle.entry_tree.proofs.names.ids_of_each.Given as goal

-- the identities of the lists so far are in the set
abbrev pub invariant-loop-ids : goal.invariant-loop-ids
invariant-loop-ids l = l.uuids.keys ≡ joined [] (flat_map (λ ids. ids.now.items) (take l.ids-index l.lists))
