-- A pass of a directory and a desk may go to another thread, and threads may share a directory.
--
-- Beside most types stands a fact that says so of them. Beside all that holds a search filter or a
-- shared map none does: here it is shown, of each from its fields.
use denote.RattleType.{RattleType}
use denote.Ref.{NamedLft, ShrRef}
use denote.Struct.Field.{row_field, shr_ref_field}
use denote.Param.Send.{IsSend, IsSync, sendable, shr_send}
use denote.Param.SendFields.{as_row_send, declared_send}
use Rattle.std.specs.contracts.option.Option as Option
use Rattle.std.proofs.option.Option.TheSendSync as option
use Rattle.std.proofs.Crossing.{crosses, Vec-send, Vec-sync}
use Rattle.turn_cell.proofs.cell.TurnCell.TheSendSync as cells
use Rattle.turn_cell.proofs.pass.Pass.TheSendSync as passes
use Rattle.turn_cell.specs.contracts.pass.Pass as Pass
use Rattle.turn_cell.specs.declared.journalled.Journalled as Journalled
use Rattle.csn_cookie.proofs.maker.CsnMaker.TheSendSync as makers
use Rattle.session_log.proofs.log.SessionLog.TheSendSync as logs
use Rattle.persist_queues.proofs.queue.SearchQueue.TheSendSync as queues
use Rattle.persist_queues.specs.contracts.queue.SearchQueue as SearchQueue
use Rattle.shared_map.proofs.Sent.{map_send}
use Rattle.dn_names.proofs.dn.Dn.TheSendSync as names
use Rattle.entry_writes.proofs.entry.Entry.TheSendSync as entries
use Rattle.entry_writes.proofs.op.Write.TheSendSync as writes
use Rattle.entry_writes.proofs.touched.Touched.TheSendSync as changes
use Rattle.entry_tree.proofs.Sent.{spec_field_send, spec_send, spec_sync}
use Rattle.entry_tree.specs.contracts.tree.Tree as Tree
use Rattle.directory_writes.proofs.start.Start.TheSendSync as starts
use Rattle.directory_writes.specs.contracts.directory.Directory as Directory
use Rattle.directory_writes.specs.contracts.previous.Previous as Previous
use Rattle.directory_writes.specs.contracts.standing.Standing as Standing
use Rattle.sync_provider.proofs.journal_note.ClosedSearch.TheSendSync as ends
use Rattle.sync_provider.proofs.parts.Parts.TheSendSync as parts
use Rattle.sync_provider.proofs.persist_message.PersistMessage.TheSendSync as messages
use Rattle.sync_provider.proofs.provider.Kind.TheSendSync as kinds
use Rattle.sync_provider.specs.contracts.changed_set.ChangedSet as ChangedSet
use Rattle.sync_provider.specs.contracts.journal.Journal as Journal
use Rattle.sync_provider.specs.contracts.journal_note.JournalNote as JournalNote
use Rattle.sync_provider.specs.contracts.journal_note.SearchChange as SearchChange
use Rattle.sync_provider.specs.contracts.journal_note.SearchEvent as SearchEvent
use Rattle.sync_provider.specs.contracts.open_search.OpenSearch as OpenSearch
use Rattle.sync_provider.specs.contracts.opened_search.OpenedSearch as OpenedSearch
use Rattle.sync_provider.specs.contracts.pending_refresh.PendingRefresh as PendingRefresh
use Rattle.sync_provider.specs.contracts.persist_message.PersistMessage as PersistMessage
use Rattle.sync_provider.specs.contracts.persist_message.PersistMessageWeighs.TheImpl as weighs
use Rattle.sync_provider.specs.contracts.provider.Provider as Provider
use Rattle.sync_provider.specs.contracts.search_table.SearchTable as SearchTable
use Rattle.sync_provider.specs.contracts.staged_group.StagedGroup as StagedGroup
use Rattle.sync_provider.specs.contracts.sync_directory.SyncDirectory as SyncDirectory
use Rattle.sync_provider.specs.contracts.walk.Walk as Walk
use Rattle.sync_provider.specs.contracts.walk.WalkPlace as WalkPlace
use Rattle.shared_directory.specs.contracts.desk.Desk as Desk
use Rattle.shared_directory.specs.contracts.directory.SharedDirectory as SharedDirectory
use Rattle.shared_directory.specs.contracts.held.HeldDirectory as HeldDirectory
use Rattle.shared_directory.specs.contracts.held.HeldDirectoryJournalled.TheImpl.{ghosts}
use Rattle.shared_directory.specs.contracts.numbered.NumberedProvider as NumberedProvider

-- ---- the entries of a directory

tree_send : IsSend Tree.the_row
tree_send = search (map_send, entries.the_send, entries.the_sync, Vec-send, Vec-sync, sendable) depth 20

previous_send : IsSend Previous.the_row
previous_send = search (tree_send, map_send, changes.the_send, crosses, sendable) depth 20 fits 5000

previous_kept_send : IsSend (Option.the_field Previous.the_row).row
previous_kept_send = option.the_field_send Previous.the_row previous_send

standing_send : IsSend Standing.the_row
standing_send = search (tree_send, map_send, makers.the_send, previous_kept_send, crosses, sendable) depth 20 fits 5000

directory_send : IsSend Directory.the_row
directory_send = search (standing_send, logs.the_send, names.the_send, writes.the_send, Vec-send, sendable) depth 20

-- ---- the journal

opened_search_send : IsSend OpenedSearch.the_row
opened_search_send = search (spec_field_send, starts.the_field_send, sendable) depth 20

search_change_send : IsSend (SearchChange.the_field).row
search_change_send = search (opened_search_send, ends.the_field_send, sendable) depth 20

search_event_send : IsSend SearchEvent.the_row
search_event_send = search (search_change_send, sendable) depth 20

journal_send : IsSend Journal.the_row
journal_send = search (search_event_send, Vec-send, sendable) depth 20

-- ---- searches that are open

queue_send : IsSend (SearchQueue.the_row PersistMessage.the_row weighs.ghosts)
queue_send = queues.the_send PersistMessage.the_row weighs.ghosts messages.the_send

changed_set_send : IsSend ChangedSet.the_row
changed_set_send = search (map_send, sendable) depth 20

walk_place_send : IsSend (WalkPlace.the_field).row
walk_place_send = search (tree_send, option.the_field_send, crosses, sendable) depth 20

walk_send : IsSend Walk.the_row
walk_send = search (walk_place_send, sendable) depth 20

refresh_send : IsSend PendingRefresh.the_row
refresh_send = search (walk_send, changed_set_send, parts.the_send, Vec-send, sendable) depth 20

staged_group_send : IsSend StagedGroup.the_row
staged_group_send = search (changed_set_send, messages.the_send, Vec-send, sendable) depth 20

open_search_send : IsSend OpenSearch.the_row
open_search_send = search (spec_send, spec_sync, queue_send, refresh_send, staged_group_send, starts.the_field_send, crosses, sendable) depth 30 fits 5000

search_table_send : IsSend SearchTable.the_row
search_table_send = search (open_search_send, option.the_send, crosses, sendable) depth 20

-- ---- the provider, and what the cell has

sync_directory_send : IsSend SyncDirectory.the_row
sync_directory_send = search (directory_send, search_table_send, kinds.the_field_send, crosses, sendable) depth 20

provider_send : IsSend Provider.the_row
provider_send = search (sync_directory_send, journal_send, sendable) depth 20

numbered_provider_send : IsSend NumberedProvider.the_row
numbered_provider_send = search (provider_send, crosses, sendable) depth 20

held_directory_send : IsSend HeldDirectory.the_row
held_directory_send = search (numbered_provider_send, crosses, sendable) depth 20

-- ---- passes and directories

module _ (g : Journalled.Ghosts (HeldDirectory.the_row).Denot (JournalNote.the_row).Denot (NumberedProvider.the_row).Denot) where
  -- a pass may go to another thread
  pub pass_send : IsSend (Pass.the_row HeldDirectory.the_row JournalNote.the_row NumberedProvider.the_row g)
  pass_send = passes.the_send HeldDirectory.the_row JournalNote.the_row NumberedProvider.the_row g held_directory_send

  -- and so may what holds it
  pub pass_field_send : IsSend (Pass.the_field HeldDirectory.the_row JournalNote.the_row NumberedProvider.the_row g).row
  pass_field_send = passes.the_field_send HeldDirectory.the_row JournalNote.the_row NumberedProvider.the_row g held_directory_send

-- threads may share a directory
pub directory_sync : IsSync SharedDirectory.the_row
directory_sync = search (cells.the_field_sync, held_directory_send, sendable) depth 20

-- ---- desks

abbrev one_pass : RattleType
one_pass = Pass.the_row HeldDirectory.the_row JournalNote.the_row NumberedProvider.the_row ghosts

-- a desk may go to another thread, where threads may share its runtime
pub desk_send : (a : NamedLft) (R : RattleType) → IsSync R → IsSend (Desk.the_row a R)
desk_send a R r =
    declared_send (Desk.the_type a R) (
      as_row_send (shr_ref_field a SharedDirectory.the_row tt) (shr_send a.mir a.lft SharedDirectory.the_row directory_sync),
      (
        as_row_send (row_field (ShrRef a.mir a.lft R)) (shr_send a.mir a.lft R r),
        (as_row_send (Option.the_field one_pass) (option.the_field_send one_pass (pass_send ghosts)), tt),
      ),
    )
