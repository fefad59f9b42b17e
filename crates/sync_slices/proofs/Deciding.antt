-- One piece more: a search stays at its place, and what is pending stays.
use Rattle.std.proofs.Common.{◌≡◌, ℕ, zero, suc, ◌+◌, ◌-◌, ◌<◌, ◌≤◌, Bool, true, false, cond, nat_lt, List, [], ◌∷◌, ◌++◌, length, take, drop, refl, ap, sym, ◌∙◌, arith, inl, inr, ◌⊎◌, subst, append_assoc, append-nil, length-append, length-drop, take-append-drop}
use Rattle.std.specs.Prelude.{not, ◌||◌}
use Rattle.std.proofs.lemmas.Bool.{true≢false, or_parts, lt-ltb, le-ltb}
use Rattle.std.proofs.lemmas.Grind.{flat_map-append}
use Rattle.entry_tree.specs.History.{differing_over}
use Rattle.sync_model.specs.Law.{MarksRise, is_nil}
use Rattle.sync_model.specs.Message.{SyncMessage}
use Rattle.sync_model.specs.Stream.{WalkDecision, content_after, is_delete_phase, walk, decide, late_uuids, last_mark, whole, left_over, rest_of, after_walk, later}
use Rattle.sync_model.proofs.Steps.{over_none}
use Rattle.sync_slices.specs.Law.{IsAt, IsMarked, IsWalking, IsSettled}
use Rattle.sync_slices.specs.Slices.{SlicedRefresh, SliceProgress, decisions_of, decisions_now, left_of, last_of, later_upto, pieces_of, settled_by, settled_messages, marks_from, marks_then, with_piece, with_end, end_parts, ended_by, with_next, ready_from, made_ready, first_progress, coming_by, pending_now}
use Rattle.sync_slices.proofs.Cutting.{pieces-push, undecided-push, last_mark-push, rise-push, decisions-push}
use Rattle.sync_slices.proofs.Gathering.{whole-append, left_over-append}

-- no message is no message, whatever the mode
pub none_either : (b : Bool) → cond {A = List SyncMessage} b [] [] ≡ []
none_either true = refl
none_either false = refl

-- what is not empty is not
pub some_left : {X : Type 0} (xs : List X) → is_nil xs ≡ false → xs ≡ [] → ⊥
some_left xs some none = true≢false (sym (ap is_nil none) ∙ some)

-- there is a message of the refresh, or none is left to decide
abbrev pub is_ready : SliceProgress → Bool
is_ready s = is_nil s.left || not (is_nil s.rest)

module _ (r : SlicedRefresh) where
  abbrev deletes : Bool
  deletes = is_delete_phase r.start

  -- nothing is sent by later writes at the last piece
  no_later : (marks : List ℕ) (now : ℕ) → last_of r marks ≡ now → later_upto r marks now ≡ []
  no_later marks now last =
      let none : now - now ≡ 0 = omega arith in
      ap (λ m. cond {A = List SyncMessage} r.operation.persists (later r.operation m (now - m)) []) last
      ∙ ap (λ n. cond {A = List SyncMessage} r.operation.persists (later r.operation now n) []) none
      ∙ none_either r.operation.persists

  -- ---- one piece

  module _ (now : ℕ) (s : SliceProgress) (handed handed_later : List SyncMessage) (marked : IsMarked r now s.marks s.left) (is : IsWalking r now s handed handed_later) where
    abbrev more : List WalkDecision
    more = decisions_now r now (take r.size s.left)

    abbrev marks : List ℕ
    marks = s.marks ++ now ∷ []

    decided_is : decisions_of r marks ≡ decisions_of r s.marks ++ more
    decided_is = decisions-push r s.marks now ∙ ap (λ us. decisions_of r s.marks ++ decisions_now r now (take r.size us)) (sym marked.left)

    last_now : last_of r marks ≡ now
    last_now =
        ap (last_mark r.accepted) (pieces-push s.marks r.size (walk r.operation r.start r.accepted) now)
        ∙ last_mark-push (pieces_of r s.marks) r.accepted (record { uuids = take r.size (left_of r s.marks); mark = now })

    marked_then : IsMarked r now marks (drop r.size s.left)
    marked_then = record {
      low = marked.low;
      last = omega (arith, last_now);
      rises =
          subst (MarksRise r.accepted) (sym (pieces-push s.marks r.size (walk r.operation r.start r.accepted) now))
          (rise-push (pieces_of r s.marks) r.accepted (record { uuids = take r.size (left_of r s.marks); mark = now }) marked.rises marked.last);
      left = ap (drop r.size) marked.left ∙ sym (undecided-push s.marks r.size (walk r.operation r.start r.accepted) now);
    }

    piece_walks : IsWalking r now (with_piece r now s) handed handed_later
    piece_walks = record {
      known =
          sym (append_assoc handed s.rest (whole deletes s.names more))
          ∙ ap (λ ms. ms ++ whole deletes s.names more) is.known
          ∙ ap (λ names. whole deletes [] (decisions_of r s.marks) ++ whole deletes names more) is.names
          ∙ sym (whole-append (decisions_of r s.marks) more deletes [])
          ∙ ap (whole deletes []) (sym decided_is);
      names =
          ap (λ names. left_over names more) is.names
          ∙ sym (left_over-append (decisions_of r s.marks) more [])
          ∙ ap (left_over []) (sym decided_is);
      changed = is.changed;
      due = is.due;
      later = is.later;
    }

    abbrev names : List ℕ
    names = left_over s.names more

    abbrev decided : List WalkDecision
    decided = decisions_of r marks

    -- the last piece and the end are the whole refresh
    end_settles : IsSettled r now (with_end r now (with_piece r now s)) handed handed_later
    end_settles = record {
      rest =
          sym (append_assoc handed (s.rest ++ whole deletes s.names more) (end_parts r now names s.changed))
          ∙ ap (λ ms. ms ++ end_parts r now names s.changed) piece_walks.known
          ∙ (λ i. whole deletes [] decided ++ end_parts r now (piece_walks.names i) (is.changed i))
          ∙ ap (λ m. whole deletes [] decided ++ (rest_of deletes (left_over [] decided) ++ after_walk r.operation deletes m (late_uuids r.operation r.accepted m))) (sym last_now)
          ∙ sym (append_assoc (whole deletes [] decided) (rest_of deletes (left_over [] decided)) (after_walk r.operation deletes (last_of r marks) (late_uuids r.operation r.accepted (last_of r marks))));
      due = (λ i. is.later i ++ is.due i) ∙ sym (no_later marks now last_now);
      ordered = inr is.later;
    }

    -- the search is at its place after one piece more
    pub next_is : IsAt r now (with_next r now s) handed handed_later
    next_is = step (drop r.size s.left) refl where
      step : (us : List ℕ) → drop r.size s.left ≡ us → IsAt r now (ended_by us r now (with_piece r now s)) handed handed_later
      step [] none = record { marked = marked_then; place = inr (none, end_settles) }
      step (u ∷ us) some = record { marked = marked_then; place = inl (ap is_nil some, piece_walks) }

  -- one mark more is kept
  pub marks_next : (now : ℕ) (s : SliceProgress) → (with_next r now s).marks ≡ s.marks ++ now ∷ []
  marks_next now s = step (drop r.size s.left) where
    step : (us : List ℕ) → (ended_by us r now (with_piece r now s)).marks ≡ s.marks ++ now ∷ []
    step [] = refl
    step (u ∷ us) = refl

  left_next : (now : ℕ) (s : SliceProgress) → (with_next r now s).left ≡ drop r.size s.left
  left_next now s = step (drop r.size s.left) where
    step : (us : List ℕ) → (ended_by us r now (with_piece r now s)).left ≡ drop r.size s.left
    step [] = refl
    step (u ∷ us) = refl

  -- at its acceptance a search is at the beginning
  pub first_is : IsAt r r.accepted (first_progress r) [] []
  first_is =
      next_is r.accepted (record { marks = []; left = walk r.operation r.start r.accepted; names = []; changed = []; rest = []; due = [] }) [] []
      (record { low = at_once; last = at_once; rises = tt; left = refl })
      (record {
        known = refl;
        names = refl;
        changed =
            let none : r.accepted - r.accepted ≡ 0 = omega arith in
            sym (ap (differing_over (λ n. content_after r.operation n) r.accepted) none ∙ over_none (λ n. content_after r.operation n) r.accepted);
        due = refl;
        later = refl;
      })
    where
      at_once : r.accepted ≤ r.accepted
      at_once = omega arith

  -- ---- what is pending stays

  coming_is : (now : ℕ) (s : SliceProgress) (us : List ℕ) → is_nil us ≡ false
      → coming_by us r now s ≡ whole deletes s.names (decisions_now r now us) ++ end_parts r now (left_over s.names (decisions_now r now us)) s.changed
  coming_is now s [] some = absurd (true≢false some)
  coming_is now s (u ∷ us) some = refl

  decisions-split : (now : ℕ) (us : List ℕ) → decisions_now r now us ≡ decisions_now r now (take r.size us) ++ decisions_now r now (drop r.size us)
  decisions-split now us =
      ap (decisions_now r now) (sym (take-append-drop r.size us))
      ∙ flat_map-append (decide r.operation r.start now) (take r.size us) (drop r.size us)

  -- one piece more changes nothing of what is pending
  pub next_pending : (now : ℕ) (s : SliceProgress) → is_nil s.left ≡ false → pending_now r now (with_next r now s) ≡ pending_now r now s
  next_pending now s some = step (drop r.size s.left) refl ∙ sym (ap (λ ms. s.rest ++ (ms ++ s.due)) coming)
    where
      first : List WalkDecision
      first = decisions_now r now (take r.size s.left)

      names : List ℕ
      names = left_over s.names first

      said : List SyncMessage
      said = whole (is_delete_phase r.start) s.names first

      beyond : List ℕ → List SyncMessage
      beyond us = whole (is_delete_phase r.start) names (decisions_now r now us)

      ends : List ℕ → List SyncMessage
      ends us = end_parts r now (left_over names (decisions_now r now us)) s.changed

      coming : coming_by s.left r now s ≡ (said ++ beyond (drop r.size s.left)) ++ ends (drop r.size s.left)
      coming =
          coming_is now s s.left some
          ∙ ap (λ ds. whole (is_delete_phase r.start) s.names ds ++ end_parts r now (left_over s.names ds) s.changed) (decisions-split now s.left)
          ∙ (λ i. whole-append first (decisions_now r now (drop r.size s.left)) (is_delete_phase r.start) s.names i ++ end_parts r now (left_over-append first (decisions_now r now (drop r.size s.left)) s.names i) s.changed)

      step : (us : List ℕ) → drop r.size s.left ≡ us
          → pending_now r now (ended_by us r now (with_piece r now s)) ≡ s.rest ++ (((said ++ beyond (drop r.size s.left)) ++ ends (drop r.size s.left)) ++ s.due)
      step [] none =
          ap (λ us. ((s.rest ++ said) ++ ends []) ++ (coming_by us r now (with_end r now (with_piece r now s)) ++ s.due)) none
          ∙ append_assoc (s.rest ++ said) (ends []) s.due
          ∙ append_assoc s.rest said (ends [] ++ s.due)
          ∙ ap (λ ms. s.rest ++ ms) (sym (append_assoc said (ends []) s.due))
          ∙ ap (λ ms. s.rest ++ ((ms ++ ends []) ++ s.due)) (sym (append-nil said))
          ∙ ap (λ us. s.rest ++ (((said ++ beyond us) ++ ends us) ++ s.due)) (sym none)
      step (u ∷ us) rest =
          ap (λ l. (s.rest ++ said) ++ (coming_by l r now (with_piece r now s) ++ s.due)) rest
          ∙ append_assoc s.rest said ((beyond (u ∷ us) ++ ends (u ∷ us)) ++ s.due)
          ∙ ap (λ ms. s.rest ++ ms) (sym (append_assoc said (beyond (u ∷ us) ++ ends (u ∷ us)) s.due))
          ∙ ap (λ ms. s.rest ++ (ms ++ s.due)) (sym (append_assoc said (beyond (u ∷ us)) (ends (u ∷ us))))
          ∙ ap (λ l. s.rest ++ (((said ++ beyond l) ++ ends l) ++ s.due)) (sym rest)

  -- ---- pieces up to a message

  -- while no message is settled some identities are left
  unready : (s : SliceProgress) → is_ready s ≡ false → is_nil s.left ≡ false
  unready s e = (or_parts (is_nil s.left) (not (is_nil s.rest)) e).0

  walking_there : (now : ℕ) (s : SliceProgress) (handed handed_later : List SyncMessage) → IsAt r now s handed handed_later → is_nil s.left ≡ false → IsWalking r now s handed handed_later
  walking_there now s handed handed_later at some = by at.place where
    by : ((is_nil s.left ≡ false) × IsWalking r now s handed handed_later) ⊎ ((s.left ≡ []) × IsSettled r now s handed handed_later) → IsWalking r now s handed handed_later
    by (inl walks) = walks.1
    by (inr settled) = absurd (some_left s.left some settled.0)

  -- a search that is made ready is at its place still
  pub ready_is : (most now : ℕ) (s : SliceProgress) (handed handed_later : List SyncMessage) → IsAt r now s handed handed_later → IsAt r now (ready_from most r now s) handed handed_later
  ready_is zero now s handed handed_later at = at
  ready_is (suc most) now s handed handed_later at =
      step (is_ready s) refl (λ walks. ready_is most now (with_next r now s) handed handed_later (next_is now s handed handed_later at.marked walks))
    where
      step : (b : Bool) → is_ready s ≡ b
          → (IsWalking r now s handed handed_later → IsAt r now (ready_from most r now (with_next r now s)) handed handed_later)
          → IsAt r now (cond b s (ready_from most r now (with_next r now s))) handed handed_later
      step true e go = at
      step false e go = go (walking_there now s handed handed_later at (unready s e))

  -- and the same is pending of it
  pub ready_pending : (most now : ℕ) (s : SliceProgress) → pending_now r now (ready_from most r now s) ≡ pending_now r now s
  ready_pending zero now s = refl
  ready_pending (suc most) now s = step (is_ready s) refl (ready_pending most now (with_next r now s))
    where
      step : (b : Bool) → is_ready s ≡ b
          → pending_now r now (ready_from most r now (with_next r now s)) ≡ pending_now r now (with_next r now s)
          → pending_now r now (cond b s (ready_from most r now (with_next r now s))) ≡ pending_now r now s
      step true e go = refl
      step false e go = go ∙ next_pending now s (unready s e)

  fewer : 0 < r.size → (us : List ℕ) → is_nil us ≡ false → length (drop r.size us) < length us
  fewer some [] h = absurd (true≢false h)
  fewer some (u ∷ us) h = let gone : length (drop r.size (u ∷ us)) ≡ length (u ∷ us) - r.size = length-drop r.size (u ∷ us) in omega (arith, some, gone)

  -- after as many pieces as there are identities it is ready
  pub ready_there : 0 < r.size → (most now : ℕ) (s : SliceProgress) → length s.left ≤ most → is_ready (ready_from most r now s) ≡ true
  ready_there some zero now s few = by s.left few where
    by : (us : List ℕ) → length us ≤ 0 → (is_nil us || not (is_nil s.rest)) ≡ true
    by [] h = refl
    by (u ∷ us) h = absurd (omega (arith, h))
  ready_there some (suc most) now s few = step (is_ready s) refl (ready_there some most now (with_next r now s))
    where
      step : (b : Bool) → is_ready s ≡ b
          → (length (with_next r now s).left ≤ most → is_ready (ready_from most r now (with_next r now s)) ≡ true)
          → is_ready (cond b s (ready_from most r now (with_next r now s))) ≡ true
      step true e go = e
      step false e go =
          let next : length (with_next r now s).left ≡ length (drop r.size s.left) = ap length (left_next now s) in
          let less : length (drop r.size s.left) < length s.left = fewer some s.left (unready s e) in
          go (omega (arith, few, next, less))

  -- ---- the marks by counts

  -- a message is left exactly where more are settled than were handed out
  more_settled : (handed rest : List SyncMessage) (count : ℕ) (settled : List SyncMessage) → handed ++ rest ≡ settled → count ≡ length handed → not (is_nil rest) ≡ nat_lt count (length settled)
  more_settled handed [] count settled whole counted =
      let long : length (handed ++ []) ≡ length settled = ap length whole in
      let same : length (handed ++ []) ≡ length handed = ap length (append-nil handed) in
      sym (le-ltb count (length settled) (omega (arith, long, same, counted)))
  more_settled handed (m ∷ rest) count settled whole counted =
      let long : length (handed ++ m ∷ rest) ≡ length settled = ap length whole in
      let both : length (handed ++ m ∷ rest) ≡ length handed + length (m ∷ rest) = length-append handed (m ∷ rest) in
      sym (lt-ltb count (length settled) (omega (arith, long, both, counted)))

  module _ (now : ℕ) (s : SliceProgress) (handed handed_later : List SyncMessage) (at : IsAt r now s handed handed_later) (count : ℕ) (counted : count ≡ length handed + length handed_later) where
    same_test : is_ready s ≡ (is_nil (left_of r s.marks) || nat_lt count (length (settled_messages r s.marks)))
    same_test = by at.place where
      walking_test : (us : List ℕ) → is_nil us ≡ false → s.left ≡ us → IsWalking r now s handed handed_later
          → (is_nil us || not (is_nil s.rest)) ≡ (is_nil us || nat_lt count (length (settled_by us r s.marks)))
      walking_test [] some same walks = absurd (true≢false some)
      walking_test (u ∷ us) some same walks =
          let none : length handed_later ≡ 0 = ap length walks.later in
          more_settled handed s.rest count (whole (is_delete_phase r.start) [] (decisions_of r s.marks)) walks.known (omega (arith, counted, none))

      by : ((is_nil s.left ≡ false) × IsWalking r now s handed handed_later) ⊎ ((s.left ≡ []) × IsSettled r now s handed handed_later)
          → is_ready s ≡ (is_nil (left_of r s.marks) || nat_lt count (length (settled_messages r s.marks)))
      by (inl walks) =
          ap (λ us. is_nil us || not (is_nil s.rest)) at.marked.left
          ∙ walking_test (left_of r s.marks) (ap is_nil (sym at.marked.left) ∙ walks.0) at.marked.left walks.1
      by (inr settled) =
          ap (λ us. is_nil us || not (is_nil s.rest)) settled.0
          ∙ sym (ap (λ us. is_nil us || nat_lt count (length (settled_by us r s.marks))) (sym at.marked.left ∙ settled.0))

  -- the pieces that make it ready have the numbers that counts alone give
  pub ready_marks : (most now : ℕ) (s : SliceProgress) (handed handed_later : List SyncMessage) (count : ℕ) → IsAt r now s handed handed_later → count ≡ length handed + length handed_later
      → (ready_from most r now s).marks ≡ marks_from most r count now s.marks
  ready_marks zero now s handed handed_later count at counted = refl
  ready_marks (suc most) now s handed handed_later count at counted =
      step (is_ready s) refl (λ walks. ready_marks most now (with_next r now s) handed handed_later count (next_is now s handed handed_later at.marked walks) counted)
      ∙ ap (λ b. cond b s.marks (marks_from most r count now (s.marks ++ now ∷ []))) (same_test now s handed handed_later at count counted)
    where
      step : (b : Bool) → is_ready s ≡ b
          → (IsWalking r now s handed handed_later → (ready_from most r now (with_next r now s)).marks ≡ marks_from most r count now (with_next r now s).marks)
          → (cond b s (ready_from most r now (with_next r now s))).marks ≡ cond b s.marks (marks_from most r count now (s.marks ++ now ∷ []))
      step true e go = refl
      step false e go = go (walking_there now s handed handed_later at (unready s e)) ∙ ap (marks_from most r count now) (marks_next now s)

  -- the marks once a message is ready are those that the counts say
  pub made_marks : (now : ℕ) (s : SliceProgress) (handed handed_later : List SyncMessage) (count : ℕ) → IsAt r now s handed handed_later → count ≡ length handed + length handed_later
      → (made_ready r now s).marks ≡ marks_then r count now s.marks
  made_marks now s handed handed_later count at counted =
      ready_marks (length s.left) now s handed handed_later count at counted
      ∙ ap (λ us. marks_from (length us) r count now s.marks) at.marked.left
