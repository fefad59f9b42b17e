-- The journal of a provider: its accepted writes, and the searches with content synchronisation
-- that were opened and that ended, in order.
use Rattle.std.specs.Prelude.{◌≡◌, ◌≢◌, ◌≤◌, ℕ, ◌+◌, ◌-◌, false, List, [], ◌∷◌, ◌++◌, length, map, take, drop, slice_index, Option, Some, None, option_map, is_some}
use Rattle.dn_names.specs.Names.{TypeAndValue}
use Rattle.entry_tree.specs.declared.op.Write.{Write}
use Rattle.directory_writes.specs.Directory.{fresh_directory}
use Rattle.sync_provider.specs.HandingOut.{search_at}
use Rattle.sync_provider.specs.Law.{HasHandedOut}
use Rattle.sync_provider.specs.Machine.{ProviderState, first_queue_limit}
use Rattle.sync_provider.specs.Opened.{SearchOpening, opening_of_search}
use Rattle.sync_provider.specs.Ports.{Journal, FollowedSearch, PortState, is_open}
use Rattle.sync_provider.specs.Search.{SearchState}
use Rattle.sync_provider.specs.declared.journal_note.ClosedSearch.{ClosedSearch}
use Rattle.sync_provider.specs.declared.journal_note.JournalNote.{JournalNote}
use Rattle.sync_provider.specs.declared.journal_note.JournalNote.TheVariants as notes
use Rattle.sync_provider.specs.declared.journal_note.SearchChange.{SearchChange}
use Rattle.sync_provider.specs.declared.journal_note.SearchChange.TheVariants.{Opened, Closed}
use Rattle.sync_provider.specs.declared.journal_note.SearchEvent.{SearchEvent}
use Rattle.sync_provider.specs.declared.provider.Kind.{Kind}

-- ---- the list

abbrev pub note_of : SearchChange → JournalNote
note_of (Opened opened) = notes.Opened opened
note_of (Closed end) = notes.Closed end

-- the writes, with the events of searches between them, after n writes
abbrev pub journal_from : ℕ → List Write → List SearchEvent → List JournalNote
journal_from count writes [] = map notes.Wrote writes
journal_from count writes (e ∷ events) =
    map notes.Wrote (take (e.writes - count) writes)
    ++ note_of e.change ∷ journal_from e.writes (drop (e.writes - count) writes) events

abbrev pub journal_of : List Write → List SearchEvent → List JournalNote
journal_of writes events = journal_from 0 writes events

-- the events come in their order, after n writes and up to m
abbrev pub AreInOrder : (low high : ℕ) → List SearchEvent → Type 0
AreInOrder low high [] = low ≤ high
AreInOrder low high (e ∷ events) = (low ≤ e.writes) × AreInOrder e.writes high events

-- ---- a provider

-- what is kept beside the writes: the events, how many messages were handed out of the search that
-- is open under each number, and for how many events there is room
pub record JournalState : Type 0 where
  pub events : List SearchEvent
  pub handed : List ℕ
  pub spare : ℕ

abbrev pub handed_at : List ℕ → ℕ → ℕ
handed_at handed number = slice_index handed number

-- there may be room for more events
pub record IsRoomier (old new : JournalState) : Type 0 where
  pub events : new.events ≡ old.events
  pub handed : new.handed ≡ old.handed
  pub kept : old.spare ≤ new.spare

-- a search was opened after n writes; nothing was handed out of it
pub record IsOpened
    (old : JournalState) (writes : ℕ) (opened : SearchOpening) (new : JournalState) : Type 0 where
  pub events :
      new.events ≡ old.events ++ record { writes = writes; change = Opened opened } ∷ []
  pub own : handed_at new.handed opened.number ≡ 0
  pub others :
      (n : ℕ) → n ≢ opened.number → handed_at new.handed n ≡ handed_at old.handed n
  pub spare : new.spare + 1 ≡ old.spare

-- a message more was handed out under a number
pub record IsCounted (old : JournalState) (number : ℕ) (new : JournalState) : Type 0 where
  pub events : new.events ≡ old.events
  pub own : handed_at new.handed number ≡ handed_at old.handed number + 1
  pub others : (n : ℕ) → n ≢ number → handed_at new.handed n ≡ handed_at old.handed n
  pub spare : new.spare ≡ old.spare

-- a search ended after n writes
pub record IsEnded
    (old : JournalState) (writes : ℕ) (end : ClosedSearch) (new : JournalState) : Type 0 where
  pub events : new.events ≡ old.events ++ record { writes = writes; change = Closed end } ∷ []
  pub handed : new.handed ≡ old.handed
  pub spare : new.spare + 1 ≡ old.spare

-- a directory with its open searches, and what is kept of their events beside it
pub record JournalledProvider : Type 0 where
  pub state : ProviderState
  pub events : List SearchEvent
  pub handed : List ℕ

abbrev pub with_journal : ProviderState → JournalState → JournalledProvider
with_journal p j = record { state = p; events = j.events; handed = j.handed }

-- a search that is open under this number, of which n messages were handed out
abbrev pub followed_as : (number handed : ℕ) → SearchState → FollowedSearch
followed_as number handed s =
    record {
      opened = opening_of_search number s;
      handed = handed;
      marks = s.progress.marks;
      over = s.over;
    }

abbrev pub followed_in : JournalledProvider → ℕ → Option FollowedSearch
followed_in v number =
    option_map (followed_as number (handed_at v.handed number))
    (search_at v.state.searches number)

-- a provider by itself has the number 0, as each entry of its journal has
abbrev pub numbered : List JournalNote → Journal
numbered journal = map (λ note. (note, 0)) journal

abbrev pub journal_in : JournalledProvider → Journal
journal_in v = numbered (journal_of v.state.directory.writes v.events)

-- what a provider knows as a port
abbrev pub port_state : JournalledProvider → PortState
port_state v = record {
  number = 0;
  ports = 0;
  kind = v.state.kind;
  directory = v.state.directory;
  queue_limit = v.state.queue_limit;
  journal = journal_in v;
  followed = followed_in v;
}

abbrev pub fresh_port : List (List TypeAndValue) → ℕ → ℕ → Kind → PortState
fresh_port suffix sid history kind = record {
  number = 0;
  ports = 0;
  kind = kind;
  directory = fresh_directory suffix sid history;
  queue_limit = first_queue_limit;
  journal = [];
  followed = λ number. None;
}

-- ---- what holds of it

-- the events are in their order; as many messages of each open search were handed out as are
-- counted, unless a write was too much for it; and the searches are open that the journal has open
pub record IsJournalled (v : JournalledProvider) : Type 0 where
  pub ordered : AreInOrder 0 (length v.state.directory.writes) v.events
  pub counted :
      (number : ℕ) (s : SearchState) → search_at v.state.searches number ≡ Some s
      → s.over ≡ false → HasHandedOut v.state.directory s (handed_at v.handed number)
  pub only :
      (number : ℕ)
      → is_some (search_at v.state.searches number) ≡ is_open (journal_in v) number

-- there is room for the end of each open search
pub record HasJournal (p : ProviderState) (j : JournalState) : Type 0 where
  pub journalled : IsJournalled (with_journal p j)
  pub room : length p.searches ≤ j.spare
