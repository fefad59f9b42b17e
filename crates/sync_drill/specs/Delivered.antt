-- What a port's searches handed out, by the entries that the port added to the journal.
use Rattle.std.specs.Prelude.{◌≡◌, ℕ, ◌-◌, true, List, [], ◌∷◌, ◌++◌, length, map, take, fold, Option, Some, None}
use Rattle.std.specs.List.{AllZip}
use Rattle.ldap_messages.specs.Frame.{message, read_of}
use Rattle.ldap_messages.specs.Whole.{message_octets, message_value}
use Rattle.ldap_messages.specs.declared.message.Message.{Message}
use Rattle.sync_model.specs.Copy.{Copy, SyncSession, asked}
use Rattle.sync_model.specs.Message.{SyncMessage}
use Rattle.sync_model.specs.Stream.{SyncOperation}
use Rattle.sync_slices.specs.Slices.{stream_upto}
use Rattle.sync_wire.specs.Sending.{sent}
use Rattle.sync_consumer.specs.Taking.{nothing, taken_of}
use Rattle.sync_consumer.specs.declared.consumer.Taken.{Taken}
use Rattle.sync_consumer.specs.declared.consumer.Taken.TheVariants.{Staged, Stored, Copied, Over, Fault, NoMemory}
use Rattle.directory_writes.specs.Directory.{DirectoryState}
use Rattle.sync_provider.specs.Opened.{SearchOpening, sliced_of}
use Rattle.sync_provider.specs.Search.{busy_end, session_of}
use Rattle.sync_provider.specs.declared.journal_note.ClosedSearch.{ClosedSearch}
use Rattle.sync_provider.specs.declared.journal_note.JournalNote.{JournalNote}
use Rattle.sync_provider.specs.declared.journal_note.JournalNote.TheVariants.{Opened, Closed}

-- the message ID of each search
abbrev pub search_id : ℕ
search_id = 1

-- ---- the messages of its searches

-- a search over the writes of a directory
abbrev pub opened_operation : DirectoryState → SearchOpening → SyncOperation
opened_operation d opening = session_of opening.persists d.sid d.history opening.spec d.writes

-- all its messages up to these, where its pieces were decided at these numbers of writes
abbrev pub stream_at : DirectoryState → SearchOpening → (marks : List ℕ) → List SyncMessage
stream_at d opening marks = stream_upto (sliced_of d opening) marks (length d.writes)

-- a message with its message ID
abbrev pub Numbered : Type 0
Numbered = ℕ × SyncMessage

-- n of these were handed out; where a write was too much after some of them, the end with
-- the code busy comes after those
abbrev pub handed_of : (over : Option ℕ) → (handed : ℕ) → List SyncMessage → List SyncMessage
handed_of None handed stream = take handed stream
handed_of (Some before) handed stream =
    take before stream ++ take (handed - before) (busy_end ∷ [])

-- a search that was opened and ended, and the numbers of writes at its pieces
pub record EndedSearch : Type 0 where
  pub opening : SearchOpening
  pub marks : List ℕ
  pub end : ClosedSearch

-- the entries of a journal of some searches, one search after the other
abbrev pub notes_in : List EndedSearch → List JournalNote
notes_in [] = []
notes_in (search ∷ searches) = Opened search.opening ∷ Closed search.end ∷ notes_in searches

-- what a search handed out, of its Stream over the writes of a directory
abbrev pub handed_by : DirectoryState → EndedSearch → List Numbered
handed_by d search =
    map (λ message. (search.opening.id, message))
    (handed_of search.end.over search.end.handed (stream_at d search.opening search.marks))

-- all that some handed out, one search after the other
abbrev pub delivered : DirectoryState → List EndedSearch → List Numbered
delivered d [] = []
delivered d (search ∷ searches) = handed_by d search ++ delivered d searches

-- a message in its canonical encoding
abbrev pub encoded : Numbered → List ℕ
encoded numbered = message_octets (sent numbered.0 numbered.1)

-- ---- what a copy makes of them

-- the copy with a search that runs: a new one is asked for where the last one is over
abbrev pub with_search : Option SyncSession → Copy → Copy
with_search None copy = asked search_id true copy
with_search (Some session) copy = copy

-- after a message
abbrev pub after_message : Copy → Message → Copy
after_message copy taken = (taken_of (with_search copy.session copy) taken).0

-- after these messages, one after the other
abbrev pub copy_after : Copy → List Message → Copy
copy_after copy messages = fold after_message copy messages

-- the message that is read from these bytes
abbrev pub IsReadFrom : List ℕ → Message → Type 0
IsReadFrom item taken = (count : ℕ) × (read_of item ≡ message (message_value taken) count)

-- a message was taken, and not refused
abbrev pub WasTaken : Taken → Type 0
WasTaken Staged = Unit {0}
WasTaken (Stored commit) = Unit {0}
WasTaken (Copied commit) = Unit {0}
WasTaken (Over code) = Unit {0}
WasTaken (Fault fault) = ⊥
WasTaken NoMemory = ⊥

-- so was each of these, one after the other
abbrev pub WereTaken : Copy → List Message → Type 0
WereTaken copy [] = Unit {0}
WereTaken copy (first ∷ later) =
    WasTaken (taken_of (with_search copy.session copy) first).1
    × WereTaken (after_message copy first) later

-- a copy before and after the message that is read from these bytes
pub record TakesItem (before : Copy) (item : List ℕ) (after : Copy) : Type 0 where
  pub taken : Message
  pub read : IsReadFrom item taken
  pub is : after ≡ after_message before taken
  pub fits : WasTaken (taken_of (with_search before.session before) taken).1

-- what a copy is that began with nothing and took the messages that are read from these items
pub record IsMadeOf (items : List (List ℕ)) (copy : Copy) : Type 0 where
  pub messages : List Message
  pub read : AllZip IsReadFrom items messages
  pub is : copy ≡ copy_after nothing messages
  pub fit : WereTaken nothing messages
