-- What was handed out, followed by what is pending, is what a search sends.
use Rattle.std.proofs.Common.{◌≡◌, ℕ, ◌+◌, ◌-◌, Bool, true, false, cond, List, [], ◌∷◌, ◌++◌, refl, ap, sym, ◌∙◌, arith, None, inl, inr, ◌⊎◌, append_assoc, append-nil}
use Rattle.std.specs.Prelude.{flat_map}
use Rattle.std.proofs.lemmas.Bool.{true≢false}
use Rattle.std.proofs.lemmas.Grind.{flat_map-append}
use Rattle.sync_model.specs.Law.{is_nil}
use Rattle.sync_model.specs.Message.{SyncMessage}
use Rattle.sync_model.specs.Message.SyncMessage.{RefreshPresent}
use Rattle.sync_model.specs.Stream.{SyncOperation, RefreshPiece, WalkDecision, is_delete_phase, decide_piece, decide_late, gathered, end_of, last_mark, late_uuids, whole, left_over, rest_of, after_walk, refresh, later, stream}
use Rattle.sync_slices.specs.Law.{IsAt, IsMarked, IsWalking, IsSettled}
use Rattle.sync_slices.specs.Slices.{SlicedRefresh, SliceProgress, pieces_of, decisions_of, decisions_now, rest_piece, stream_upto, end_parts, coming_by, pending_now}
use Rattle.sync_slices.proofs.Cutting.{last_mark-push}
use Rattle.sync_slices.proofs.Gathering.{whole-append, left_over-append}
use Rattle.sync_slices.proofs.Deciding.{none_either, some_left}

-- ---- there is always an end

is_nil-append : (xs ys : List SyncMessage) → is_nil ys ≡ false → is_nil (xs ++ ys) ≡ false
is_nil-append [] ys some = some
is_nil-append (x ∷ xs) ys some = refl

after_walk_some : (operation : SyncOperation) (covered : Bool) (now : ℕ) (late : List ℕ) → is_nil (after_walk operation covered now late) ≡ false
after_walk_some operation covered now [] = refl
after_walk_some operation covered now (u ∷ us) =
    is_nil-append (cond covered [] (RefreshPresent false None ∷ [])) (gathered true (flat_map (decide_late operation now) (u ∷ us)) ++ end_of operation.persists true (operation.cookies now) ∷ [])
    (is_nil-append (gathered true (flat_map (decide_late operation now) (u ∷ us))) (end_of operation.persists true (operation.cookies now) ∷ []) refl)

module _ (r : SlicedRefresh) where
  -- while pieces are left something is pending
  pub pending_some : (now : ℕ) (s : SliceProgress) → is_nil s.left ≡ false → is_nil (pending_now r now s) ≡ false
  pending_some now s some = is_nil-append s.rest (coming_by s.left r now s ++ s.due) (by s.left some)
    where
      append_some : (xs : List SyncMessage) → is_nil xs ≡ false → is_nil (xs ++ s.due) ≡ false
      append_some [] h = absurd (true≢false h)
      append_some (x ∷ xs) h = refl

      by : (us : List ℕ) → is_nil us ≡ false → is_nil (coming_by us r now s ++ s.due) ≡ false
      by [] h = absurd (true≢false h)
      by (u ∷ us) h =
          append_some (coming_by (u ∷ us) r now s)
          (is_nil-append (whole (is_delete_phase r.start) s.names (decisions_now r now (u ∷ us))) (end_parts r now (left_over s.names (decisions_now r now (u ∷ us))) s.changed)
          (is_nil-append (rest_of (is_delete_phase r.start) (left_over s.names (decisions_now r now (u ∷ us)))) (after_walk r.operation (is_delete_phase r.start) now s.changed)
          (after_walk_some r.operation (is_delete_phase r.start) now s.changed)))

  -- ---- the stream

  module _ (now : ℕ) (s : SliceProgress) (handed handed_later : List SyncMessage) (marked : IsMarked r now s.marks s.left) where
    -- once all pieces are decided
    settled_stream : s.left ≡ [] → IsSettled r now s handed handed_later → (handed ++ handed_later) ++ pending_now r now s ≡ stream_upto r s.marks now
    settled_stream none is =
        ap (λ us. (handed ++ handed_later) ++ (s.rest ++ (coming_by us r now s ++ s.due))) none
        ∙ by is.ordered
        ∙ (λ i. is.rest i ++ is.due i)
        ∙ ap (λ ps. stream r.operation r.start r.accepted ps (now - last_mark r.accepted ps)) (sym (append-nil (pieces_of r s.marks)) ∙ ap (λ us. pieces_of r s.marks ++ rest_piece now us) (sym none ∙ marked.left))
      where
        by : (s.rest ≡ []) ⊎ (handed_later ≡ []) → (handed ++ handed_later) ++ (s.rest ++ s.due) ≡ (handed ++ s.rest) ++ (handed_later ++ s.due)
        by (inl no_rest) =
            ap (λ l. (handed ++ handed_later) ++ (l ++ s.due)) no_rest
            ∙ append_assoc handed handed_later s.due
            ∙ ap (λ l. l ++ (handed_later ++ s.due)) (sym (append-nil handed) ∙ ap (λ l. handed ++ l) (sym no_rest))
        by (inr no_later) =
            ap (λ l. l ++ (s.rest ++ s.due)) (ap (λ l. handed ++ l) no_later ∙ append-nil handed)
            ∙ sym (append_assoc handed s.rest s.due)
            ∙ ap (λ l. (handed ++ s.rest) ++ (l ++ s.due)) (sym no_later)

    -- while pieces are left
    walking_stream : (u : ℕ) (us : List ℕ) → s.left ≡ u ∷ us → IsWalking r now s handed handed_later → (handed ++ handed_later) ++ pending_now r now s ≡ stream_upto r s.marks now
    walking_stream u us some is =
        (λ i. (handed ++ is.later i) ++ (s.rest ++ (coming_by (some i) r now s ++ is.due i)))
        ∙ (λ i. append-nil handed i ++ (s.rest ++ append-nil coming i))
        ∙ sym (append_assoc handed s.rest coming)
        ∙ (λ i. is.known i ++ coming)
        ∙ (λ i. whole deletes [] before ++ (whole deletes (is.names i) after ++ end_parts r now (left_over (is.names i) after) (is.changed i)))
        ∙ sym (append_assoc (whole deletes [] before) (whole deletes (left_over [] before) after) (end_parts r now (left_over (left_over [] before) after) late))
        ∙ (λ i. sym (whole-append before after deletes []) i ++ end_parts r now (sym (left_over-append before after []) i) late)
        ∙ sym (append_assoc (whole deletes [] (before ++ after)) (rest_of deletes (left_over [] (before ++ after))) (after_walk r.operation deletes now late))
        ∙ (λ i. refreshed (sym decided_is i) now)
        ∙ ap (refreshed (flat_map (decide_piece r.operation r.start) pieces)) (sym last_is)
        ∙ sym (append-nil (refresh r.operation r.start r.accepted pieces))
        ∙ ap (λ ms. refresh r.operation r.start r.accepted pieces ++ ms) (sym no_later)
        ∙ ap (λ l. stream r.operation r.start r.accepted (pieces_of r s.marks ++ rest_piece now l) (now - last_mark r.accepted (pieces_of r s.marks ++ rest_piece now l))) (sym some ∙ marked.left)
      where
        deletes : Bool
        deletes = is_delete_phase r.start

        before : List WalkDecision
        before = decisions_of r s.marks

        after : List WalkDecision
        after = decisions_now r now (u ∷ us)

        late : List ℕ
        late = late_uuids r.operation r.accepted now

        coming : List SyncMessage
        coming = whole deletes s.names after ++ end_parts r now (left_over s.names after) s.changed

        piece : RefreshPiece
        piece = record { uuids = u ∷ us; mark = now }

        pieces : List RefreshPiece
        pieces = pieces_of r s.marks ++ piece ∷ []

        refreshed : List WalkDecision → ℕ → List SyncMessage
        refreshed ds last = (whole deletes [] ds ++ rest_of deletes (left_over [] ds)) ++ after_walk r.operation deletes last (late_uuids r.operation r.accepted last)

        decided_is : flat_map (decide_piece r.operation r.start) pieces ≡ before ++ after
        decided_is = flat_map-append (decide_piece r.operation r.start) (pieces_of r s.marks) (piece ∷ []) ∙ ap (λ ds. before ++ ds) (append-nil after)

        last_is : last_mark r.accepted pieces ≡ now
        last_is = last_mark-push (pieces_of r s.marks) r.accepted piece

        no_later : cond {A = List SyncMessage} r.operation.persists (later r.operation (last_mark r.accepted pieces) (now - last_mark r.accepted pieces)) [] ≡ []
        no_later =
            let none : now - last_mark r.accepted pieces ≡ 0 = omega (arith, last_is) in
            ap (λ n. cond {A = List SyncMessage} r.operation.persists (later r.operation (last_mark r.accepted pieces) n) []) none ∙ none_either r.operation.persists

  -- what was handed out, followed by what is pending, is what the search sends up to now
  pub stream_is : (now : ℕ) (s : SliceProgress) (handed handed_later : List SyncMessage) → IsAt r now s handed handed_later → (handed ++ handed_later) ++ pending_now r now s ≡ stream_upto r s.marks now
  stream_is now s handed handed_later at = by s.left refl at.place
    where
      by : (us : List ℕ) → s.left ≡ us → ((is_nil s.left ≡ false) × IsWalking r now s handed handed_later) ⊎ ((s.left ≡ []) × IsSettled r now s handed handed_later)
          → (handed ++ handed_later) ++ pending_now r now s ≡ stream_upto r s.marks now
      by [] none (inl walks) = absurd (some_left s.left walks.0 none)
      by (u ∷ us) some (inl walks) = walking_stream now s handed handed_later at.marked u us some walks.1
      by [] none (inr settled) = settled_stream now s handed handed_later at.marked settled.0 settled.1
      by (u ∷ us) some (inr settled) = settled_stream now s handed handed_later at.marked settled.0 settled.1
