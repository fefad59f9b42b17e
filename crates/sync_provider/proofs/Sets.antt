-- What is gathered is what the messages of a part of a refresh are.
use Rattle.std.proofs.Common.{◌≡◌, ℕ, ◌+◌, ◌<◌, ◌≤◌, Bool, true, false, cond, List, [], ◌∷◌, ◌++◌, length, get_or, take, refl, sym, ap, ◌∙◌, None, arith, length-append, append_assoc}
use Rattle.std.proofs.lemmas.Bool.{lt-ltb, le-ltb}
use Rattle.std.proofs.lemmas.Grind.{flat_map-append}
use Rattle.std.proofs.lemmas.List.{append-nil, map_push, take_more}
use Rattle.entry_tree.specs.declared.entry.Entry.{Entry}
use Rattle.entry_tree.specs.Selection.{Search}
use Rattle.sync_model.specs.Message.{SyncMessage}
use Rattle.sync_model.specs.Message.SyncMessage.{AddOrModify, IdSet, RefreshPresent}
use Rattle.sync_model.specs.Stream.{SyncOperation, WalkDecision, most_names, whole, left_over, rest_of, gathered, end_of, after_walk}
use Rattle.sync_model.specs.Stream.WalkDecision.{Sends, Names}
use Rattle.sync_slices.proofs.Gathering.{whole-append, left_over-append}
use Rattle.directory_writes.specs.Directory.{DirectoryState, cookie_of}
use Rattle.sync_provider.specs.Gathering.{Gathered, Gathers, Adds, TurnsToDeletes, AddsLast}
use Rattle.refresh_present.specs.declared.decision.Decision as decision
use Rattle.sync_provider.specs.Refreshing as refreshing
use Rattle.sync_provider.specs.Refreshing.{GathersLate, decided_late}
use Rattle.sync_provider.specs.Search.{message_of, messages_of, session_of}
use Rattle.sync_provider.specs.declared.refresh_item.RefreshItem.{RefreshItem}
use Rattle.sync_provider.proofs.Deciding.{cookie_is}

-- one message more
pub message_more : (old parts : List RefreshItem) (part : RefreshItem) (messages : List SyncMessage) → parts ≡ old ++ part ∷ [] → messages_of old ≡ messages → messages_of parts ≡ messages ++ message_of part ∷ []
message_more old parts part messages grown is = ap messages_of grown ∙ map_push message_of old part ∙ ap (λ ms. ms ++ message_of part ∷ []) is

-- ---- more decisions

-- none gather nothing
pub gathers_none : (g : Gathered) → Gathers [] g g
gathers_none g = record { deletes = refl; messages = sym (append-nil g.messages); names = refl }

-- some, and then others
pub gathers_more : (ds more : List WalkDecision) (first between last : Gathered) → Gathers ds first between → Gathers more between last → Gathers (ds ++ more) first last
gathers_more ds more first between last one two = record {
  deletes = two.deletes ∙ one.deletes;
  messages =
      two.messages
      ∙ (λ i. one.messages i ++ whole (one.deletes i) (one.names i) more)
      ∙ append_assoc first.messages (whole first.deletes first.names ds) (whole first.deletes (left_over first.names ds) more)
      ∙ ap (λ ms. first.messages ++ ms) (sym (whole-append ds more first.deletes first.names));
  names = two.names ∙ ap (λ names. left_over names more) one.names ∙ sym (left_over-append ds more first.names);
}

-- one decision more says what it says after the others
pub said_more : (entries : List Entry) (ds : List decision.Decision) (i : ℕ) (d : decision.Decision) → i < length ds → refreshing.said_all entries (take (i + 1) ds) ≡ refreshing.said_all entries (take i ds) ++ refreshing.said entries (get_or ds i d)
said_more entries ds i d low =
    ap (refreshing.said_all entries) (take_more ds i d low)
    ∙ flat_map-append (refreshing.said entries) (take i ds) (get_or ds i d ∷ [])
    ∙ ap (λ ws. refreshing.said_all entries (take i ds) ++ ws) (append-nil (refreshing.said entries (get_or ds i d)))

-- an entry is sent whole
pub gathers_entry : (old new : Gathered) (entry : Entry) → new.deletes ≡ old.deletes → new.messages ≡ old.messages ++ AddOrModify true entry None ∷ [] → new.names ≡ old.names → Gathers (Sends entry ∷ []) old new
gathers_entry old new entry deletes messages names = record { deletes = deletes; messages = messages; names = names }

-- a name, where the set is not full with it
pub gathers_name : (old new : Gathered) (uuid : ℕ) → new.deletes ≡ old.deletes → new.messages ≡ old.messages → new.names ≡ old.names ++ uuid ∷ [] → length new.names < most_names → Gathers (Names uuid ∷ []) old new
gathers_name old new uuid deletes messages names low =
    let long : length new.names ≡ length old.names + 1 = ap length names ∙ length-append old.names (uuid ∷ []) in
    let few : length old.names + 1 < most_names = omega (arith, long, low) in
    record {
      deletes = deletes;
      messages =
          messages
          ∙ sym (append-nil old.messages)
          ∙ ap (λ ms. old.messages ++ ms)
          (sym (ap (λ b. cond {A = List SyncMessage} b [] (IdSet old.deletes (old.names ++ uuid ∷ []) None ∷ [])) (lt-ltb (length old.names + 1) most_names few)));
      names = names ∙ sym (ap (λ b. cond {A = List ℕ} b (old.names ++ uuid ∷ []) []) (lt-ltb (length old.names + 1) most_names few));
    }

-- and where it is
pub gathers_set : (old new : Gathered) (uuid : ℕ) (set : List ℕ) → set ≡ old.names ++ uuid ∷ [] → most_names ≤ length set → new.deletes ≡ old.deletes → new.messages ≡ old.messages ++ IdSet old.deletes set None ∷ [] → new.names ≡ []
    → Gathers (Names uuid ∷ []) old new
gathers_set old new uuid set is full deletes messages names =
    let long : length set ≡ length old.names + 1 = ap length is ∙ length-append old.names (uuid ∷ []) in
    let many : most_names ≤ length old.names + 1 = omega (arith, long, full) in
    record {
      deletes = deletes;
      messages =
          messages
          ∙ ap (λ uuids. old.messages ++ IdSet old.deletes uuids None ∷ []) is
          ∙ ap (λ ms. old.messages ++ ms)
          (sym (ap (λ b. cond {A = List SyncMessage} b [] (IdSet old.deletes (old.names ++ uuid ∷ []) None ∷ [])) (le-ltb (length old.names + 1) most_names many)));
      names = names ∙ sym (ap (λ b. cond {A = List ℕ} b (old.names ++ uuid ∷ []) []) (le-ltb (length old.names + 1) most_names many));
    }

-- ---- the rest of the names

-- none is left
pub adds_none : (old : Gathered) → length old.names ≡ 0 → Adds (rest_of old.deletes old.names) old old
adds_none old none = by old.names refl none
  where
    by : (names : List ℕ) → old.names ≡ names → length names ≡ 0 → Adds (rest_of old.deletes names) old old
    by [] is none = record { deletes = refl; messages = sym (append-nil old.messages); names = is }
    by (u ∷ us) is none = absurd (omega (arith, none))

-- some are
pub adds_names : (old new : Gathered) → 0 < length old.names → new.deletes ≡ old.deletes → new.messages ≡ old.messages ++ IdSet old.deletes old.names None ∷ [] → new.names ≡ [] → Adds (rest_of old.deletes old.names) old new
adds_names old new some deletes messages none = by old.names some messages
  where
    by : (names : List ℕ) → 0 < length names → new.messages ≡ old.messages ++ IdSet old.deletes names None ∷ [] → Adds (rest_of old.deletes names) old new
    by [] some messages = absurd (omega (arith, some))
    by (u ∷ us) some messages = record { deletes = deletes; messages = messages; names = none }

-- ---- the phase

-- names are those of deleted entries
pub turned_already : (g : Gathered) → g.deletes ≡ true → g.names ≡ [] → TurnsToDeletes g g
turned_already g deletes none = record {
  deletes = deletes;
  messages = sym (append-nil g.messages) ∙ ap (λ b. g.messages ++ cond b [] (RefreshPresent false None ∷ [])) (sym deletes);
  names = none;
}

-- they were those of present ones
pub turned : (old new : Gathered) → old.deletes ≡ false → old.names ≡ [] → new.deletes ≡ true → new.messages ≡ old.messages ++ RefreshPresent false None ∷ [] → new.names ≡ old.names → TurnsToDeletes old new
turned old new was none deletes messages names = record {
  deletes = deletes;
  messages = messages ∙ ap (λ b. old.messages ++ cond b [] (RefreshPresent false None ∷ [])) (sym was);
  names = names ∙ none;
}

-- ---- the end

module _ (persists : Bool) (d : DirectoryState) (search : Search) where
  abbrev operation : SyncOperation
  operation = session_of persists d.sid d.history search d.writes

  -- a late part: the present phase ends where it goes on, then come its decisions and the rest of their names
  pub late_is_gathered : (us : List ℕ) (first begun said last : Gathered) → first.names ≡ []
      → TurnsToDeletes first begun → Gathers (decided_late persists d search us) begun said → Adds (rest_of said.deletes said.names) said last → GathersLate persists d search us first last
  late_is_gathered us first begun said last none turns gathers adds = record {
    deletes = adds.deletes ∙ gathers.deletes ∙ turns.deletes;
    messages =
        adds.messages
        ∙ (λ i. gathers.messages i ++ rest_of (gathers.deletes i) (gathers.names i))
        ∙ (λ i. (turns.messages i ++ whole (turns.deletes i) (turns.names i) decisions) ++ rest_of (turns.deletes i) (left_over (turns.names i) decisions))
        ∙ append_assoc (first.messages ++ cond first.deletes [] (RefreshPresent false None ∷ [])) (whole true [] decisions) (rest_of true (left_over [] decisions))
        ∙ append_assoc first.messages (cond first.deletes [] (RefreshPresent false None ∷ [])) (gathered true decisions);
    names = adds.names;
  }
    where
      decisions : List WalkDecision
      decisions = decided_late persists d search us

  -- the end, where nothing changed
  pub ends_plainly : (late : List ℕ) (first named last : Gathered) → length late ≡ 0
      → Adds (rest_of first.deletes first.names) first named → Adds (end_of persists named.deletes (cookie_of d) ∷ []) named last
      → AddsLast (rest_of first.deletes first.names ++ after_walk operation first.deletes (length d.writes) late) first last
  ends_plainly [] first named last none one two = record {
    messages =
        two.messages
        ∙ (λ i. one.messages i ++ end_of persists (one.deletes i) (cookie_is persists d search i) ∷ [])
        ∙ append_assoc first.messages (rest_of first.deletes first.names) (after_walk operation first.deletes (length d.writes) []);
    names = two.names;
  }
  ends_plainly (u ∷ us) first named last none one two = absurd (omega (arith, none))

  -- where something did
  pub ends_late : (late : List ℕ) (first named said last : Gathered) → 0 < length late
      → Adds (rest_of first.deletes first.names) first named → GathersLate persists d search late named said → Adds (end_of persists said.deletes (cookie_of d) ∷ []) said last
      → AddsLast (rest_of first.deletes first.names ++ after_walk operation first.deletes (length d.writes) late) first last
  ends_late [] first named said last some one two three = absurd (omega (arith, some))
  ends_late (u ∷ us) first named said last some one two three = record {
    messages =
        three.messages
        ∙ (λ i. two.messages i ++ end_of persists (two.deletes i) (cookie_is persists d search i) ∷ [])
        ∙ (λ i. (one.messages i ++ (turn (one.deletes i) ++ late)) ++ end)
        ∙ append_assoc (first.messages ++ rest) (turn first.deletes ++ late) end
        ∙ append_assoc first.messages rest ((turn first.deletes ++ late) ++ end)
        ∙ ap (λ ms. first.messages ++ (rest ++ ms)) (append_assoc (turn first.deletes) late end);
    names = three.names;
  }
    where
      rest : List SyncMessage
      rest = rest_of first.deletes first.names

      turn : Bool → List SyncMessage
      turn deletes = cond deletes [] (RefreshPresent false None ∷ [])

      late : List SyncMessage
      late = gathered true (decided_late persists d search (u ∷ us))

      end : List SyncMessage
      end = end_of persists true (operation.cookies (length d.writes)) ∷ []
