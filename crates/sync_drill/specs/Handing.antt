-- A consumer while its searches are handed out and its messages are taken.
use Rattle.std.specs.Prelude.{◌≡◌, ◌≢◌, ℕ, ◌+◌, Bool, true, false, List, [], ◌∷◌, ◌++◌, length, map, Option, Some, None, Ok}
use mathlib.Core.List.{IsPrefix}
use Rattle.entry_tree.specs.Selection.{search_of}
use Rattle.sync_messages.specs.Request.{request_of}
use Rattle.sync_messages.specs.declared.request.Mode.TheVariants.{RefreshAndPersist}
use Rattle.sync_model.specs.Message.{SyncMessage}
use Rattle.sync_model.specs.Stream.Start.{InitialContent}
use Rattle.sync_slices.specs.Slices.{SliceProgress}
use Rattle.directory_writes.specs.Directory.{DirectoryState}
use Rattle.link_rings.specs.Ends.{taken, known_items}
use Rattle.link_rings.specs.declared.ends.RingConsumer.{RingConsumer}
use Rattle.sync_provider.specs.Law.{IsPlaced}
use Rattle.sync_provider.specs.Opened.{SearchOpening}
use Rattle.sync_provider.specs.Ports.{PortState}
use Rattle.sync_provider.specs.Search.{SearchState}
use Rattle.sync_provider.specs.declared.journal_note.JournalNote.TheVariants.{Opened}
use Rattle.sync_provider.specs.declared.searches.SyncSearch.{SyncSearch}
use Rattle.sync_consumer.specs.Taking.{ConsumerState}
use Rattle.drill_plan.specs.Ending.{followed_by}
use Rattle.sync_drill.specs.Delivered.{search_id, stream_at, EndedSearch, notes_in, delivered, encoded, IsMadeOf}
use Rattle.sync_drill.specs.Journals.{notes_of}

-- how many messages of its Stream a search handed out that is over
abbrev pub count_of : (over : Option ℕ) → (handed : ℕ) → ℕ
count_of None handed = handed
count_of (Some before) handed = before

-- a search as it was opened, for which no write was too much, and of which this is kept
abbrev pub search_with : SearchOpening → SliceProgress → SearchState
search_with opening progress = record {
  id = opening.id;
  spec = opening.spec;
  start = opening.start;
  accepted = opening.accepted;
  persists = opening.persists;
  progress = progress;
  over = false;
}

-- these messages of a search were handed out, and its pieces were decided at these numbers of
-- writes, by which it is at its place in its Stream over the writes of a directory and over more
pub record IsSoFar (d : DirectoryState) (opening : SearchOpening) (marks : List ℕ)
    (handed : List SyncMessage) : Type 0 where
  pub progress : SliceProgress
  pub marks_are : progress.marks ≡ marks
  pub placed : IsPlaced d (search_with opening progress)
  pub all : placed.handed ++ placed.handed_later ≡ handed

-- a search that was ended after these messages
pub record IsEnded (d : DirectoryState) (search : EndedSearch) : Type 0 where
  pub number : search.opening.number ≡ search.end.number
  pub handed : List SyncMessage
  pub far : IsSoFar d search.opening search.marks handed
  pub counted : length handed ≡ count_of search.end.over search.end.handed

-- so were all of these
abbrev pub AreEnded : DirectoryState → List EndedSearch → Type 0
AreEnded d [] = Unit {0}
AreEnded d (search ∷ searches) = IsEnded d search × AreEnded d searches

-- a search as a consumer's port opens it: without a cookie, of what the consumer follows
pub record IsOpening (consumer : ℕ) (opening : SearchOpening) : Type 0 where
  pub id : opening.id ≡ search_id
  pub spec : opening.spec ≡ followed_by consumer
  pub start : opening.start ≡ InitialContent
  pub goes_on : opening.persists ≡ true

-- one that ended with the code busy: a write was too much for it after some of its messages
pub record EndsBusy (consumer : ℕ) (d : DirectoryState) (search : EndedSearch) : Type 0 where
  pub ended : IsEnded d search
  pub asked : IsOpening consumer search.opening
  pub before : ℕ
  pub over : search.end.over ≡ Some before
  pub handed : search.end.handed ≡ before + 1

-- each of these has ended so
abbrev pub AllEndBusy : ℕ → DirectoryState → List EndedSearch → Type 0
AllEndBusy consumer d [] = Unit {0}
AllEndBusy consumer d (search ∷ searches) =
    EndsBusy consumer d search × AllEndBusy consumer d searches

-- what is asked for so
pub record IsAsked (consumer : ℕ) (ask : SyncSearch) : Type 0 where
  pub id : ask.id ≡ search_id
  pub spec : search_of ask.spec ≡ followed_by consumer
  pub control : request_of ask.control
      ≡ Ok (record { mode = RefreshAndPersist; cookie = None; reload_hint = false })

-- The port follows one search, and these items were offered: all messages of its earlier searches,
-- and those of this one that were handed out, in their encodings.
pub record IsHanding (consumer search : ℕ) (port : PortState) (items : List (List ℕ)) : Type 0 where
  pub opening : SearchOpening
  pub marks : List ℕ
  pub handed : List SyncMessage
  pub over : Bool
  pub follows : port.followed search
      ≡ Some
      (record { opened = opening; handed = length handed; marks = marks; over = over })
  pub alone : (n : ℕ) → n ≢ search → port.followed n ≡ None
  pub its_number : opening.number ≡ search
  pub asked : IsOpening consumer opening
  pub far : IsSoFar port.directory opening marks handed
  pub ended : List EndedSearch
  pub are_ended : AreEnded port.directory ended
  pub busy : AllEndBusy consumer port.directory ended
  pub own : notes_of port.number port.journal ≡ notes_in ended ++ Opened opening ∷ []
  pub offered_is : items
      ≡ map encoded
      (delivered port.directory ended ++ map (λ message. (search_id, message)) handed)

-- all that is due was handed out
pub record IsDone (consumer search : ℕ) (port : PortState) (items : List (List ℕ)) : Type 0 where
  pub handing : IsHanding consumer search port items
  pub fits : handing.over ≡ false
  pub whole : handing.handed ≡ stream_at port.directory handing.opening handing.marks

-- a consumer that made of these items what it has
pub record HasTaken (consumer : ℕ) (copy : ConsumerState) (items : List (List ℕ)) : Type 0 where
  pub spec : copy.spec ≡ followed_by consumer
  pub made : IsMadeOf items copy.copy

-- the first item of those that an end of a ring knows of was taken
pub record TakesKnown (old new : RingConsumer) (item : List ℕ) (rest : List (List ℕ)) : Type 0 where
  pub taken_is : taken new ≡ taken old ++ item ∷ []
  pub known : IsPrefix rest (known_items new)

-- The port follows no search, and these items were offered: all messages of its searches.
pub record IsResting (port : PortState) (items : List (List ℕ)) : Type 0 where
  pub alone : (n : ℕ) → port.followed n ≡ None
  pub searches : List EndedSearch
  pub own : notes_of port.number port.journal ≡ notes_in searches
  pub are_ended : AreEnded port.directory searches
  pub offered_is : items ≡ map encoded (delivered port.directory searches)

-- It follows no search, and each of its searches ended because a write was too much for it.
pub record MayOpen (consumer : ℕ) (port : PortState) (items : List (List ℕ)) : Type 0 where
  pub resting : IsResting port items
  pub busy : AllEndBusy consumer port.directory resting.searches
