use Rattle.std.proofs.Common.{◌≡◌, map, take}
use Rattle.std.specs.List.{filter_map}
use Rattle.entry_writes.specs.State.{entry_at}
use Rattle.entry_tree.proofs.tree.Tree.entries_of.Given as goal

-- the entries of the identities so far are there
abbrev pub invariant-loop-uuid : goal.invariant-loop-uuid
invariant-loop-uuid l = map (λ e. e.now) l.entries.items ≡ filter_map (entry_at l.self) (take l.uuid-index l.uuids)
