-- The laws of what is sent: from a cookie only what was touched since (RFC 4533,
-- sections 3.3.2 and 3.4.2).
use Rattle.std.specs.Prelude.{◌≡◌, ◌≤◌, ℕ, ◌+◌, ◌-◌, true, List, [], ◌∷◌, map, Option, Some, None, All, filter_map}
use Rattle.entry_tree.specs.declared.entry.Entry.{Entry}
use Rattle.entry_tree.specs.declared.touched.EntryChange.{EntryChange}
use Rattle.entry_tree.specs.Touched.{touched}
use Rattle.entry_tree.specs.History.{differing_over}
use Rattle.sync_model.specs.Message.{SyncMessage}
use Rattle.sync_model.specs.Message.SyncMessage.{AddOrModify, Delete, Present, IdSet, NewCookie, RefreshDelete, RefreshPresent, Done, Ignored}
use Rattle.sync_model.specs.Stream.{SyncOperation, Start, RefreshPiece, content_after, among, last_mark, refresh, group}
use Rattle.sync_model.specs.Stream.Start.{InitialContent, DeletePhase, PresentPhase}
use Rattle.sync_model.specs.Law.{Ascending, IsCut}

-- the number of the cookie that a search begins with
abbrev pub number_of : Start → Option ℕ
number_of InitialContent = None
number_of (DeletePhase number) = Some number
number_of (PresentPhase number) = Some number

-- the entry that a message sends whole
abbrev pub sent_entry : SyncMessage → Option Entry
sent_entry (AddOrModify adds entry cookie) = Some entry
sent_entry (Delete uuid name cookie) = None
sent_entry (Present uuid cookie) = None
sent_entry (IdSet deletes uuids cookie) = None
sent_entry (NewCookie cookie) = None
sent_entry (RefreshDelete done cookie) = None
sent_entry (RefreshPresent done cookie) = None
sent_entry (Done code control) = None
sent_entry Ignored = None

-- the identities that a message is about
abbrev pub about : SyncMessage → List ℕ
about (AddOrModify adds entry cookie) = entry.uuid ∷ []
about (Delete uuid name cookie) = uuid ∷ []
about (Present uuid cookie) = uuid ∷ []
about (IdSet deletes uuids cookie) = uuids
about (NewCookie cookie) = []
about (RefreshDelete done cookie) = []
about (RefreshPresent done cookie) = []
about (Done code control) = []
about Ignored = []

-- a refresh from a cookie sends an entry whole only where the writes after those of the cookie, up
-- to those of the refresh's own cookie, touched its identity
abbrev pub IncrementalRefresh : Type 0
IncrementalRefresh =
    (operation : SyncOperation) → Ascending operation
    → (start : Start) (number accepted : ℕ) (pieces : List RefreshPiece)
    → number_of start ≡ Some number → number ≤ accepted
    → IsCut operation start accepted pieces
    → All
    (λ entry.
    among entry.uuid
    (differing_over operation.states number (last_mark accepted pieces - number))
    ≡ true)
    (filter_map sent_entry (refresh operation start accepted pieces))

-- each message of a later write is about one identity, and these are those that the write changes
-- in what is selected, each once and in ascending order
abbrev pub LaterNotified : Type 0
LaterNotified =
    (operation : SyncOperation) (before : ℕ)
    → map about (group operation before)
    ≡ map (λ (entry_change : EntryChange). entry_change.uuid ∷ [])
    (touched (content_after operation before) (content_after operation (before + 1)))
