use Rattle.std.proofs.Common.{◌≡◌, map, take}
use Rattle.entry_tree.specs.Selection.{search_of}
use Rattle.sync_provider.specs.Refreshing.{touched_item_at}
use Rattle.sync_provider.proofs.refreshing.touched_items.Given as goal

-- what is known of the identities so far
abbrev pub invariant-loop-uuid : goal.invariant-loop-uuid
invariant-loop-uuid l = l.items.items ≡ map (touched_item_at l.directory.state (search_of l.spec)) (take l.uuid-index l.uuids)
