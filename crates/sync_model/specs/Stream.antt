-- The messages of a search with content synchronisation, as a function of the states that it goes
-- through (RFC 4533, sections 3.3 and 3.4).
use Rattle.std.specs.Prelude.{ℕ, zero, suc, ◌+◌, ◌-◌, pos, Bool, true, false, cond, nat_eq, nat_lt, List, [], ◌∷◌, ◌++◌, length, Option, Some, None, flat_map}
use Rattle.std.specs.List.{list_any}
use Rattle.ldap_constants.specs.declared.result_codes.TheConstants.{SUCCESS}
use Rattle.dn_names.specs.Writing.{name_text}
use Rattle.entry_tree.specs.declared.entry.Entry.{Entry}
use Rattle.entry_tree.specs.declared.touched.EntryChange.{EntryChange}
use Rattle.entry_tree.specs.State.{entry_at}
use Rattle.entry_tree.specs.Selection.{Search, select}
use Rattle.entry_tree.specs.Touched.{identities, touched}
use Rattle.entry_tree.specs.History.{differing_over}
use Rattle.sync_model.specs.Message.{CookieText, SyncMessage, phase_end}
use Rattle.sync_model.specs.Message.SyncMessage.{AddOrModify, Delete, IdSet, RefreshPresent, Done}

-- a search: whether it goes on after its refresh (refreshAndPersist) or ends with it (refreshOnly),
-- what it selects, the states of the directory by the number of writes before them, and the text of
-- the cookie of each number
pub record SyncOperation : Type 0 where
  pub persists : Bool
  pub selection : Search
  pub states : ℕ → List Entry
  pub cookies : ℕ → CookieText

-- what it selects after n writes
abbrev pub content_after : SyncOperation → ℕ → List Entry
content_after operation number = select operation.selection (operation.states number)

abbrev pub among : ℕ → List ℕ → Bool
among uuid uuids = list_any (nat_eq uuid) uuids

-- ---- a refresh

-- where a search begins: without a cookie, or with the cookie of n writes, all touches after
-- which the provider still has (covered) or not
pub data Start : Type 0 where
  InitialContent : Start
  DeletePhase : (number : ℕ) → Start
  PresentPhase : (number : ℕ) → Start

abbrev pub is_delete_phase : Start → Bool
is_delete_phase InitialContent = false
is_delete_phase (DeletePhase number) = true
is_delete_phase (PresentPhase number) = false

-- identities of the walk that are decided at one moment, which is the number of writes at it
pub record RefreshPiece : Type 0 where
  pub uuids : List ℕ
  pub mark : ℕ

-- the identities that a refresh goes through, ascending: those touched since the cookie, else all
abbrev pub walk : SyncOperation → Start → ℕ → List ℕ
walk operation InitialContent accepted = identities (operation.states accepted)
walk operation (DeletePhase number) accepted =
    differing_over operation.states number (accepted - number)
walk operation (PresentPhase number) accepted = identities (operation.states accepted)

-- an identity is sent as an entry, or named
pub data WalkDecision : Type 0 where
  Sends : (entry : Entry) → WalkDecision
  Names : (uuid : ℕ) → WalkDecision

-- whether a selected entry is sent whole at this mark, and not named as present
abbrev pub is_sent : SyncOperation → Start → ℕ → ℕ → Bool
is_sent operation InitialContent mark uuid = true
is_sent operation (DeletePhase number) mark uuid = true
is_sent operation (PresentPhase number) mark uuid =
    among uuid (differing_over operation.states number (mark - number))

-- what is said of an identity by whether it is selected: a delete phase names those that are not
abbrev pub decided : (deletes sent : Bool) → ℕ → Option Entry → List WalkDecision
decided deletes sent uuid (Some entry) = cond sent (Sends entry ∷ []) (Names uuid ∷ [])
decided deletes sent uuid None = cond deletes (Names uuid ∷ []) []

abbrev pub decide : SyncOperation → Start → ℕ → ℕ → List WalkDecision
decide operation start mark uuid =
    decided (is_delete_phase start) (is_sent operation start mark uuid) uuid
    (entry_at (content_after operation mark) uuid)

abbrev pub decide_piece : SyncOperation → Start → RefreshPiece → List WalkDecision
decide_piece operation start piece = flat_map (decide operation start piece.mark) piece.uuids

-- the number of writes at the last piece
abbrev pub last_mark : ℕ → List RefreshPiece → ℕ
last_mark accepted [] = accepted
last_mark accepted (piece ∷ pieces) = last_mark piece.mark pieces

-- the identities that changed in the content from the acceptance to the last piece, ascending
abbrev pub late_uuids : SyncOperation → ℕ → ℕ → List ℕ
late_uuids operation accepted last =
    differing_over (λ number. content_after operation number) accepted (last - accepted)

-- they are decided at the last mark, as in a delete phase
abbrev pub decide_late : SyncOperation → ℕ → ℕ → List WalkDecision
decide_late operation last uuid =
    decided true true uuid (entry_at (content_after operation last) uuid)

-- how many identities a syncIdSet names at most
abbrev pub most_names : ℕ
most_names = 256

-- the whole messages that decisions give after these names were gathered
abbrev pub whole : (deletes : Bool) → List ℕ → List WalkDecision → List SyncMessage
whole deletes names [] = []
whole deletes names (Sends entry ∷ decisions) =
    AddOrModify true entry None ∷ whole deletes names decisions
whole deletes names (Names uuid ∷ decisions) =
    cond (nat_lt (length names + 1) most_names)
    (whole deletes (names ++ uuid ∷ []) decisions)
    (IdSet deletes (names ++ uuid ∷ []) None ∷ whole deletes [] decisions)

-- the names that are left over then
abbrev pub left_over : List ℕ → List WalkDecision → List ℕ
left_over names [] = names
left_over names (Sends entry ∷ decisions) = left_over names decisions
left_over names (Names uuid ∷ decisions) =
    cond (nat_lt (length names + 1) most_names) (left_over (names ++ uuid ∷ []) decisions)
    (left_over [] decisions)

abbrev pub rest_of : (deletes : Bool) → List ℕ → List SyncMessage
rest_of deletes [] = []
rest_of deletes (uuid ∷ uuids) = IdSet deletes (uuid ∷ uuids) None ∷ []

-- a part of a refresh: entries as they come, names in sets that are full, and the rest of the names
abbrev pub gathered : (deletes : Bool) → List WalkDecision → List SyncMessage
gathered deletes decisions = whole deletes [] decisions ++ rest_of deletes (left_over [] decisions)

-- the end of a refresh: it ends a delete phase or a present phase
abbrev pub end_of : (persists deletes : Bool) → CookieText → SyncMessage
end_of persists deletes cookie =
    cond persists (phase_end deletes true (Some cookie))
    (Done (pos SUCCESS) (Some (deletes, Some cookie)))

-- what follows the walk: its end, or first the late part as a delete phase
abbrev pub after_walk : SyncOperation → (covered : Bool) → ℕ → List ℕ → List SyncMessage
after_walk operation covered last [] =
    end_of operation.persists covered (operation.cookies last) ∷ []
after_walk operation covered last (uuid ∷ uuids) =
    cond covered [] (RefreshPresent false None ∷ [])
    ++ (gathered true (flat_map (decide_late operation last) (uuid ∷ uuids))
    ++ end_of operation.persists true (operation.cookies last) ∷ [])

abbrev pub refresh : SyncOperation → Start → ℕ → List RefreshPiece → List SyncMessage
refresh operation start accepted pieces =
    gathered (is_delete_phase start) (flat_map (decide_piece operation start) pieces)
    ++ after_walk operation (is_delete_phase start) (last_mark accepted pieces)
    (late_uuids operation accepted (last_mark accepted pieces))

-- ---- the later writes

-- an entry enters the content, changes in it, or leaves it; then the name is that which it had
abbrev pub notified : Option CookieText → ℕ → Option Entry → Option Entry → List SyncMessage
notified cookie uuid None None = []
notified cookie uuid (Some was) None = Delete uuid (name_text was.dn) cookie ∷ []
notified cookie uuid None (Some now) = AddOrModify true now cookie ∷ []
notified cookie uuid (Some was) (Some now) = AddOrModify false now cookie ∷ []

-- the last message of a write has its cookie
abbrev pub notified_all : CookieText → List EntryChange → List SyncMessage
notified_all cookie [] = []
notified_all cookie (entry_change ∷ []) =
    notified (Some cookie) entry_change.uuid entry_change.before entry_change.after
notified_all cookie (entry_change ∷ next ∷ entry_changes) =
    notified None entry_change.uuid entry_change.before entry_change.after
    ++ notified_all cookie (next ∷ entry_changes)

-- what the write after n writes sends
abbrev pub group : SyncOperation → ℕ → List SyncMessage
group operation before =
    notified_all (operation.cookies (before + 1))
    (touched (content_after operation before) (content_after operation (before + 1)))

-- what n writes after these send
abbrev pub later : SyncOperation → ℕ → ℕ → List SyncMessage
later operation from zero = []
later operation from (suc count) = later operation from count ++ group operation (from + count)

-- all messages of a search, up to n writes after the last piece
abbrev pub stream : SyncOperation → Start → ℕ → List RefreshPiece → ℕ → List SyncMessage
stream operation start accepted pieces count =
    refresh operation start accepted pieces
    ++ cond operation.persists (later operation (last_mark accepted pieces) count) []
