-- The laws of replication: what a copy holds after the messages of a search.
use Rattle.std.specs.Prelude.{◌≡◌, ◌≤◌, ◌⊎◌, ⊤, ℕ, zero, suc, ◌+◌, Bool, true, false, cond, List, [], ◌∷◌, ◌++◌, length, Option, Some, None, flat_map}
use Rattle.entry_tree.specs.declared.entry.Entry.{Entry}
use Rattle.entry_tree.specs.declared.op.Write.{Write}
use Rattle.entry_tree.specs.History.{state_of}
use Rattle.entry_tree.specs.State.{ascends, total_weight, most_entries, most_weight}
use Rattle.sync_model.specs.Message.{CookieText, SyncMessage}
use Rattle.sync_model.specs.Stream.{SyncOperation, Start, RefreshPiece, content_after, walk, last_mark, refresh, group, later, stream}
use Rattle.sync_model.specs.Stream.Start.{InitialContent, DeletePhase, PresentPhase}
use Rattle.sync_model.specs.Copy.{SyncSession, Copy, asked, refused, taken, taken_all, answers}
use Rattle.sync_model.specs.Copy.Fault.{StageFull}
use Rattle.sync_model.specs.Keeping.{KeepsEntriesAndCookie}
use Rattle.sync_model.specs.Within.{exceeds_limits, same_named, puts_entry, staged_puts, taken_within, taken_all_within, answers_within}

-- each state is in ascending order of identity
abbrev pub Ascending : SyncOperation → Type 0
Ascending operation = (number : ℕ) → ascends (operation.states number) ≡ true

-- so are those of every directory, over any writes
abbrev pub HistoriesAscend : Type 0
HistoriesAscend =
    (history : ℕ) (writes : List Write) (number : ℕ)
    → ascends (state_of history writes number) ≡ true

-- the moments of the pieces follow this one, each not before the one before it
abbrev pub MarksRise : ℕ → List RefreshPiece → Type 0
MarksRise mark [] = ⊤
MarksRise mark (piece ∷ pieces) = (mark ≤ piece.mark) × MarksRise piece.mark pieces

-- the pieces cut the walk of a search that was accepted after n writes
pub record IsCut
    (operation : SyncOperation) (start : Start) (accepted : ℕ)
    (pieces : List RefreshPiece) : Type 0 where
  pub cut : flat_map (λ piece. piece.uuids) pieces ≡ walk operation start accepted
  pub rises : MarksRise accepted pieces

-- the entries are the content after some number of writes between these
pub record IsContentWithin
    (operation : SyncOperation) (least most : ℕ) (held : List Entry) : Type 0 where
  pub number : ℕ
  pub from : least ≤ number
  pub upto : number ≤ most
  pub same : held ≡ content_after operation number

-- what is held before a refresh: with a cookie the content of its number or of a later one,
-- without one anything
abbrev pub MayBegin : SyncOperation → Start → ℕ → List Entry → Type 0
MayBegin operation InitialContent accepted held = ascends held ≡ true
MayBegin operation (DeletePhase number) accepted held =
    IsContentWithin operation number accepted held
MayBegin operation (PresentPhase number) accepted held =
    IsContentWithin operation number accepted held

-- what runs after the end of a refresh
abbrev pub runs_on : ℕ → (persists ended : Bool) → Option SyncSession
runs_on id true ended =
    Some (record {
      id = id;
      persists = true;
      persisting = true;
      ended = ended;
      named = [];
      stage = [];
    })
runs_on id false ended = None

-- a copy whose refresh is over, or which took all of a later write
abbrev pub settled : ℕ → (persists ended : Bool) → List Entry → Option CookieText → Copy
settled id persists ended held cookie =
    record { held = held; cookie = cookie; session = runs_on id persists ended }

-- a refresh ends in the content after the writes at its last piece, with the cookie of their number
abbrev pub RefreshEnds : Type 0
RefreshEnds =
    (operation : SyncOperation) → Ascending operation
    → (id : ℕ) (start : Start) (accepted : ℕ) (pieces : List RefreshPiece) (copy : Copy)
    → IsCut operation start accepted pieces
    → MayBegin operation start accepted copy.held
    → (ended : Bool)
    × (taken_all id (asked id operation.persists copy) (refresh operation start accepted pieces)
    ≡ settled id operation.persists ended (content_after operation (last_mark accepted pieces))
    (Some (operation.cookies (last_mark accepted pieces))))

abbrev pub is_nil : {X : Type 0} → List X → Bool
is_nil [] = true
is_nil (x ∷ xs) = false

-- the cookie of the last of n writes after these that sent something, else the one before
abbrev pub cookie_after : SyncOperation → Option CookieText → ℕ → ℕ → Option CookieText
cookie_after operation cookie from zero = cookie
cookie_after operation cookie from (suc count) =
    cond (is_nil (group operation (from + count))) (cookie_after operation cookie from count)
    (Some (operation.cookies (from + count + 1)))

-- what later writes send leads from the content before them to that after them
abbrev pub LaterEnds : Type 0
LaterEnds =
    (operation : SyncOperation) → Ascending operation
    → (id from count : ℕ) (cookie : Option CookieText) (ended : Bool)
    → taken_all id (settled id true ended (content_after operation from) cookie)
    (later operation from count)
    ≡ settled id true ended (content_after operation (from + count))
    (cookie_after operation cookie from count)

-- the copy has the content after some number of writes between these, and its cookie
pub record ShowsContent (operation : SyncOperation) (least most : ℕ) (after : Copy) : Type 0 where
  pub number : ℕ
  pub from : least ≤ number
  pub upto : number ≤ most
  pub held : after.held ≡ content_after operation number
  pub cookie : after.cookie ≡ Some (operation.cookies number)

-- the copy has what it had, or that content
abbrev pub Shows : SyncOperation → Copy → ℕ → ℕ → Copy → Type 0
Shows operation before least most after =
    KeepsEntriesAndCookie before after ⊎ ShowsContent operation least most after

-- wherever a search is cut off, the copy has what it had before it or the content
-- after some of the writes
abbrev pub PrefixShows : Type 0
PrefixShows =
    (operation : SyncOperation) → Ascending operation
    → (id : ℕ) (start : Start) (accepted : ℕ) (pieces : List RefreshPiece) (count : ℕ) (copy : Copy)
    (prefix rest : List SyncMessage)
    → IsCut operation start accepted pieces
    → MayBegin operation start accepted copy.held
    → prefix ++ rest ≡ stream operation start accepted pieces count
    → Shows operation copy accepted (last_mark accepted pieces + count)
    (taken_all id (asked id operation.persists copy) prefix)

-- ---- within the limits

-- the entries that a directory may have: not too many, not too heavy, and each
-- with a name of its own
pub record IsWithinLimits (entries : List Entry) : Type 0 where
  pub few : length entries ≤ most_entries
  pub light : total_weight entries ≤ most_weight
  pub unique_names : same_named entries ≡ None

-- what a directory that keeps within its limits sends in one piece meets no limit
abbrev pub PrefixFits : Type 0
PrefixFits =
    (operation : SyncOperation) → Ascending operation
    → ((number : ℕ) → IsWithinLimits (operation.states number))
    → (id : ℕ) (start : Start) (accepted count : ℕ) (copy : Copy) (prefix rest : List SyncMessage)
    → MayBegin operation start accepted copy.held
    → prefix ++ rest
    ≡ stream operation start accepted
    (record { uuids = walk operation start accepted; mark = accepted } ∷ []) count
    → (taken_all_within id (asked id operation.persists copy) prefix
    ≡ taken_all id (asked id operation.persists copy) prefix)
    × (answers_within id (asked id operation.persists copy) prefix
    ≡ answers id (asked id operation.persists copy) prefix)

-- ---- in several pieces

-- the message after these is refused as StageFull: it puts an entry, with which the entries staged
-- as puts are more, or heavier, than a directory may have; those before it met no limit
pub record FillsStage
    (id : ℕ) (copy : Copy) (before : List SyncMessage) (message : SyncMessage) : Type 0 where
  pub copy_within : taken_all_within id copy before ≡ taken_all id copy before
  pub same_answers : answers_within id copy before ≡ answers id copy before
  pub puts : puts_entry message ≡ true
  pub full :
      exceeds_limits (staged_puts (taken id (taken_all id copy before) message).0.session) ≡ true
  pub refused :
      taken_within id (taken_all id copy before) message
      ≡ refused (taken_all id copy before) StageFull

-- some messages meet no limit, or one of them fills the stage
abbrev pub FitsOrFills : ℕ → Copy → List SyncMessage → Type 0
FitsOrFills id copy messages =
    ((taken_all_within id copy messages ≡ taken_all id copy messages)
    × (answers_within id copy messages ≡ answers id copy messages))
    ⊎ ((before : List SyncMessage) × (message : SyncMessage) × (after : List SyncMessage)
    × (messages ≡ before ++ message ∷ after) × FillsStage id copy before message)

-- what a directory that keeps within its limits sends in any number of pieces meets no limit of a
-- copy but that of its stage
abbrev pub PrefixFitsOrFills : Type 0
PrefixFitsOrFills =
    (operation : SyncOperation) → Ascending operation
    → ((number : ℕ) → IsWithinLimits (operation.states number))
    → (id : ℕ) (start : Start) (accepted : ℕ) (pieces : List RefreshPiece) (count : ℕ) (copy : Copy)
    (prefix rest : List SyncMessage)
    → IsCut operation start accepted pieces
    → MayBegin operation start accepted copy.held
    → prefix ++ rest ≡ stream operation start accepted pieces count
    → FitsOrFills id (asked id operation.persists copy) prefix
