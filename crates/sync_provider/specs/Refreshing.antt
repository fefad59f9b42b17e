-- The refresh of a search, as its parts are decided.
use Rattle.std.specs.Prelude.{◌≡◌, ℕ, Bool, true, false, cond, List, [], ◌∷◌, ◌++◌, length, map, Option, Some, None}
use Rattle.std.specs.List.{flat_map}
use Rattle.entry_tree.specs.declared.entry.Entry.{Entry}
use Rattle.entry_tree.specs.History.{state_of, touched_over}
use Rattle.entry_tree.specs.Selection.{Search, is_selected}
use Rattle.entry_tree.specs.State.{entry_at}
use Rattle.entry_tree.specs.Touched.{identities}
use Rattle.refresh_present.specs.declared.item.Item.{Item}
use Rattle.refresh_present.specs.declared.decision.Decision as decision
use Rattle.refresh_present.specs.declared.decision.Decision.TheVariants.{Send, Present, Delete}
use Rattle.refresh_present.specs.Present as presents
use Rattle.refresh_delete.specs.Delete as deletes
use Rattle.sync_model.specs.Message.SyncMessage.{RefreshPresent}
use Rattle.sync_model.specs.Stream.{Start, WalkDecision, decide, decide_late, gathered}
use Rattle.sync_model.specs.Stream.WalkDecision.{Sends, Names}
use Rattle.sync_model.specs.Stream.Start.{InitialContent, DeletePhase, PresentPhase}
use Rattle.directory_writes.specs.Directory.{DirectoryState, entries_of}
use Rattle.directory_writes.specs.Touches.{last_touch}
use Rattle.sync_provider.specs.Gathering.{Gathered}
use Rattle.sync_provider.specs.Search.{session_of}

abbrev pub all_identities : DirectoryState → List ℕ
all_identities d = identities (entries_of d)

-- the identities that a refresh goes through
abbrev pub walked : DirectoryState → Start → List ℕ
walked d InitialContent = all_identities d
walked d (DeletePhase number) = touched_over d.history d.writes number (length d.writes)
walked d (PresentPhase number) = all_identities d

-- what is known of an identity: the number of its last touch, or of the last write where it has no
-- entry any more, and whether its entry is selected
abbrev pub item_of : DirectoryState → Search → ℕ → Option Entry → Item
item_of d search uuid None = record { uuid = uuid; touched = length d.writes; selected = false }
item_of d search uuid (Some entry) =
    record {
      uuid = uuid;
      touched = last_touch (state_of d.history d.writes) (length d.writes) uuid;
      selected = is_selected search entry;
    }

abbrev pub item_at : DirectoryState → Search → ℕ → Item
item_at d search uuid = item_of d search uuid (entry_at (entries_of d) uuid)

-- whether it has an entry that is selected
abbrev pub is_selected_found : Search → Option Entry → Bool
is_selected_found search None = false
is_selected_found search (Some entry) = is_selected search entry

abbrev pub is_selected_at : DirectoryState → Search → ℕ → Bool
is_selected_at d search uuid = is_selected_found search (entry_at (entries_of d) uuid)

-- what is known of an identity that was touched since, by whichever write: the first one stands for
-- it
abbrev pub touched_item_at : DirectoryState → Search → ℕ → Item
touched_item_at d search uuid =
    record { uuid = uuid; touched = 1; selected = is_selected_at d search uuid }

-- the decisions of a present phase, and of a delete phase
abbrev pub present_planned :
    DirectoryState → Search → Option ℕ → List ℕ → List decision.Decision
present_planned d search after uuids = presents.planned after (map (item_at d search) uuids)

abbrev pub delete_planned : DirectoryState → Search → List ℕ → List decision.Decision
delete_planned d search uuids = deletes.planned 0 (map (touched_item_at d search) uuids)

-- what a search sends of these identities, decided now
abbrev pub decided_now :
    (persists : Bool) → DirectoryState → Search → Start → List ℕ → List WalkDecision
decided_now persists d search start uuids =
    flat_map
    (decide (session_of persists d.sid d.history search d.writes) start (length d.writes))
    uuids

-- what it sends of those that changed in the content since its acceptance, decided now
abbrev pub decided_late :
    (persists : Bool) → DirectoryState → Search → List ℕ → List WalkDecision
decided_late persists d search uuids =
    flat_map
    (decide_late (session_of persists d.sid d.history search d.writes) (length d.writes))
    uuids

-- these come as a delete phase after what was gathered
pub record GathersLate
    (persists : Bool) (d : DirectoryState) (search : Search) (uuids : List ℕ)
    (old new : Gathered) : Type 0 where
  pub deletes : new.deletes ≡ true
  pub messages :
      new.messages
      ≡ old.messages
      ++ (cond old.deletes [] (RefreshPresent false None ∷ [])
      ++ gathered true (decided_late persists d search uuids))
  pub names : new.names ≡ []

-- what a decision says: the entry of its identity, where there is one, or its name
abbrev pub sends : Option Entry → List WalkDecision
sends None = []
sends (Some entry) = Sends entry ∷ []

abbrev pub said : List Entry → decision.Decision → List WalkDecision
said entries (Send uuid) = sends (entry_at entries uuid)
said entries (Present uuid) = Names uuid ∷ []
said entries (Delete uuid) = Names uuid ∷ []

abbrev pub said_all : List Entry → List decision.Decision → List WalkDecision
said_all entries decisions = flat_map (said entries) decisions
