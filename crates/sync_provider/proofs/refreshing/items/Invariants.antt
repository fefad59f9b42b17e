use Rattle.std.proofs.Common.{◌≡◌, map, take}
use Rattle.entry_tree.specs.Selection.{search_of}
use Rattle.sync_provider.specs.Refreshing.{item_at}
use Rattle.sync_provider.proofs.refreshing.items.Given as goal

-- what is known of the identities so far
abbrev pub invariant-loop-uuid : goal.invariant-loop-uuid
invariant-loop-uuid l = l.items.items ≡ map (item_at l.directory.state (search_of l.spec)) (take l.uuid-index l.uuids)
