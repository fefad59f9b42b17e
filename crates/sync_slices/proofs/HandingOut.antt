-- One message more is handed out: the search is at its next place, and the others are pending.
use Rattle.std.proofs.Common.{◌≡◌, ℕ, ◌+◌, ◌<◌, true, false, List, [], ◌∷◌, ◌++◌, length, refl, ap, sym, ◌∙◌, arith, inl, inr, ◌⊎◌, subst, append_assoc, append-nil}
use Rattle.std.specs.Prelude.{not, ◌||◌}
use Rattle.std.proofs.lemmas.Bool.{true≢false, cases_Bool}
use Rattle.std.proofs.Math.Bool.{or-false}
use Rattle.sync_model.specs.Law.{is_nil}
use Rattle.sync_model.specs.Message.{SyncMessage}
use Rattle.sync_model.proofs.Groups.{heads, tails}
use Rattle.sync_model.proofs.Prefixes.{nil_is}
use Rattle.sync_slices.specs.Law.{IsAt, IsWalking, IsSettled}
use Rattle.sync_slices.specs.Slices.{SlicedRefresh, SliceProgress, marks_then, coming_by, pending_now, ready_from, made_ready, without_first, handed_on}
use Rattle.sync_slices.proofs.Deciding.{some_left, is_ready, ready_is, ready_pending, ready_there, made_marks}
use Rattle.sync_slices.proofs.Streams.{pending_some}

-- a search of which these were handed out and then one more is at its place
pub record IsHanded (r : SlicedRefresh) (now : ℕ) (s : SliceProgress) (before : List SyncMessage) (m : SyncMessage) : Type 0 where
  pub handed : List SyncMessage
  pub handed_later : List SyncMessage
  pub at : IsAt r now s handed handed_later
  pub all : handed ++ handed_later ≡ before ++ m ∷ []

-- where something of the refresh is left, nothing of later writes was handed out
none_later : (m : SyncMessage) (rest handed_later : List SyncMessage) → (m ∷ rest ≡ []) ⊎ (handed_later ≡ []) → handed_later ≡ []
none_later m rest handed_later (inl none) = absurd (some_left (m ∷ rest) refl none)
none_later m rest handed_later (inr none) = none

-- where a message is ready and none of the refresh is, all pieces are decided
no_left : (s : SliceProgress) → is_ready s ≡ true → s.rest ≡ [] → s.left ≡ []
no_left s ready none = nil_is s.left (sym (or-false (is_nil s.left)) ∙ ap (λ l. is_nil s.left || not (is_nil l)) (sym none) ∙ ready)

-- what is to come does not depend on what is not handed out of the messages before it
coming-rest : (r : SlicedRefresh) (now : ℕ) (s : SliceProgress) (rest : List SyncMessage) (us : List ℕ) → coming_by us r now (record s { rest = rest }) ≡ coming_by us r now s
coming-rest r now s rest [] = refl
coming-rest r now s rest (u ∷ us) = refl

-- what is left when the first of some messages is gone has the same marks
marks_kept : (s : SliceProgress) (rest due : List SyncMessage) → (without_first s rest due).marks ≡ s.marks
marks_kept s (m ∷ rest) due = refl
marks_kept s [] (m ∷ due) = refl
marks_kept s [] [] = refl

-- ---- with a message that is ready

module _ (r : SlicedRefresh) (now : ℕ) (s : SliceProgress) (m : SyncMessage) (ms : List SyncMessage) (some : pending_now r now s ≡ m ∷ ms) where
  -- the first message that is pending is one of the refresh
  all_rest : (x : SyncMessage) (rest : List SyncMessage) → s.rest ≡ x ∷ rest → x ∷ (rest ++ (coming_by s.left r now s ++ s.due)) ≡ m ∷ ms
  all_rest x rest is = ap (λ l. l ++ (coming_by s.left r now s ++ s.due)) (sym is) ∙ some

  -- or else one of later writes
  all_due : (x : SyncMessage) (due : List SyncMessage) → s.rest ≡ [] → s.left ≡ [] → s.due ≡ x ∷ due → x ∷ due ≡ m ∷ ms
  all_due x due no_rest none is =
      sym is
      ∙ ap (λ us. coming_by us r now s ++ s.due) (sym none)
      ∙ ap (λ l. l ++ (coming_by s.left r now s ++ s.due)) (sym no_rest)
      ∙ some

  -- there is one
  never_none : s.rest ≡ [] → s.left ≡ [] → s.due ≡ [] → ⊥
  never_none no_rest none no_due =
      some_left (m ∷ ms) refl
      (sym some
      ∙ ap (λ l. l ++ (coming_by s.left r now s ++ s.due)) no_rest
      ∙ ap (λ us. coming_by us r now s ++ s.due) none
      ∙ no_due)

  -- once it is handed out the others are pending
  pub first_gone : is_ready s ≡ true → pending_now r now (without_first s s.rest s.due) ≡ ms
  first_gone ready = by s.rest s.due refl refl
    where
      by : (rest due : List SyncMessage) → s.rest ≡ rest → s.due ≡ due → pending_now r now (without_first s rest due) ≡ ms
      by (x ∷ rest) due is_rest is_due =
          ap (λ coming. rest ++ (coming ++ s.due)) (coming-rest r now s rest s.left)
          ∙ tails x m (rest ++ (coming_by s.left r now s ++ s.due)) ms (all_rest x rest is_rest)
      by [] (x ∷ due) is_rest is_due =
          ap (λ l. l ++ (coming_by s.left r now (record s { due = due }) ++ due)) is_rest
          ∙ ap (λ us. coming_by us r now (record s { due = due }) ++ due) (no_left s ready is_rest)
          ∙ tails x m due ms (all_due x due is_rest (no_left s ready is_rest) is_due)
      by [] [] is_rest is_due = absurd (never_none is_rest (no_left s ready is_rest) is_due)

  -- ---- at its place

  module _ (handed handed_later : List SyncMessage) (at : IsAt r now s handed handed_later) where
    -- the first message that is left of the refresh
    from_rest : (x : SyncMessage) (rest : List SyncMessage) → s.rest ≡ x ∷ rest → IsHanded r now (record s { rest = rest }) (handed ++ handed_later) m
    from_rest x rest is = record {
      handed = handed ++ x ∷ [];
      handed_later = handed_later;
      at = record { marked = at.marked; place = place at.place };
      all =
          ap (λ hs. (handed ++ x ∷ []) ++ hs) none
          ∙ append-nil (handed ++ x ∷ [])
          ∙ ap (λ hs. hs ++ x ∷ []) (sym (append-nil handed) ∙ ap (λ hs. handed ++ hs) (sym none))
          ∙ ap (λ y. (handed ++ handed_later) ++ y ∷ []) (heads x m (rest ++ (coming_by s.left r now s ++ s.due)) ms (all_rest x rest is));
    }
      where
        none : handed_later ≡ []
        none = by at.place where
          by : ((is_nil s.left ≡ false) × IsWalking r now s handed handed_later) ⊎ ((s.left ≡ []) × IsSettled r now s handed handed_later) → handed_later ≡ []
          by (inl walks) = walks.1.later
          by (inr settled) = none_later x rest handed_later (subst (λ l. (l ≡ []) ⊎ (handed_later ≡ [])) is settled.1.ordered)

        one : (handed ++ x ∷ []) ++ rest ≡ handed ++ s.rest
        one = append_assoc handed (x ∷ []) rest ∙ ap (λ l. handed ++ l) (sym is)

        place : ((is_nil s.left ≡ false) × IsWalking r now s handed handed_later) ⊎ ((s.left ≡ []) × IsSettled r now s handed handed_later)
            → ((is_nil s.left ≡ false) × IsWalking r now (record s { rest = rest }) (handed ++ x ∷ []) handed_later) ⊎ ((s.left ≡ []) × IsSettled r now (record s { rest = rest }) (handed ++ x ∷ []) handed_later)
        place (inl walks) = inl (walks.0, record { known = one ∙ walks.1.known; names = walks.1.names; changed = walks.1.changed; due = walks.1.due; later = walks.1.later })
        place (inr settled) = inr (settled.0, record { rest = one ∙ settled.1.rest; due = settled.1.due; ordered = inr none })

    -- the first message of later writes
    from_due : (x : SyncMessage) (due : List SyncMessage) → s.rest ≡ [] → s.left ≡ [] → s.due ≡ x ∷ due → IsHanded r now (record s { due = due }) (handed ++ handed_later) m
    from_due x due no_rest none is = record {
      handed = handed;
      handed_later = handed_later ++ x ∷ [];
      at = record { marked = at.marked; place = inr (none, place at.place) };
      all = sym (append_assoc handed handed_later (x ∷ [])) ∙ ap (λ y. (handed ++ handed_later) ++ y ∷ []) (heads x m due ms (all_due x due no_rest none is));
    }
      where
        place : ((is_nil s.left ≡ false) × IsWalking r now s handed handed_later) ⊎ ((s.left ≡ []) × IsSettled r now s handed handed_later)
            → IsSettled r now (record s { due = due }) handed (handed_later ++ x ∷ [])
        place (inl walks) = absurd (some_left s.left walks.0 none)
        place (inr settled) = record {
          rest = settled.1.rest;
          due = append_assoc handed_later (x ∷ []) due ∙ ap (λ l. handed_later ++ l) (sym is) ∙ settled.1.due;
          ordered = inl no_rest;
        }

    -- the first of what is pending, once a message is ready
    pub hands_is : is_ready s ≡ true → IsHanded r now (without_first s s.rest s.due) (handed ++ handed_later) m
    hands_is ready = by s.rest s.due refl refl
      where
        by : (rest due : List SyncMessage) → s.rest ≡ rest → s.due ≡ due → IsHanded r now (without_first s rest due) (handed ++ handed_later) m
        by (x ∷ rest) due is_rest is_due = from_rest x rest is_rest
        by [] (x ∷ due) is_rest is_due = from_due x due is_rest (no_left s ready is_rest) is_due
        by [] [] is_rest is_due = absurd (never_none is_rest (no_left s ready is_rest) is_due)

-- ---- a hand-out

module _ (r : SlicedRefresh) (now : ℕ) (s : SliceProgress) where
  -- where nothing is pending nothing is handed out
  pub hands_nothing : pending_now r now s ≡ [] → handed_on r now s ≡ s
  hands_nothing none =
      ap (λ (after : SliceProgress). without_first after after.rest after.due) ready_now
      ∙ ap (λ rest. without_first s rest s.due) no_rest
      ∙ ap (λ due. without_first s [] due) no_due
    where
      decided : s.left ≡ []
      decided = elim (cases_Bool (is_nil s.left)) [
        | inl here ↦ nil_is s.left here
        | inr off ↦ absurd (true≢false (sym (ap is_nil none) ∙ pending_some r now s off))
      ]

      ready_now : made_ready r now s ≡ s
      ready_now = ap (λ us. ready_from (length us) r now s) decided

      parts : s.rest ++ s.due ≡ []
      parts = sym (ap (λ us. s.rest ++ (coming_by us r now s ++ s.due)) decided) ∙ none

      first_none : (xs ys : List SyncMessage) → xs ++ ys ≡ [] → xs ≡ []
      first_none [] ys e = refl
      first_none (x ∷ xs) ys e = absurd (some_left (x ∷ (xs ++ ys)) refl e)

      no_rest : s.rest ≡ []
      no_rest = first_none s.rest s.due parts

      no_due : s.due ≡ []
      no_due = ap (λ xs. xs ++ s.due) (sym no_rest) ∙ parts

  -- the numbers of writes at its pieces, by how many messages were handed out
  pub marks_handed : (handed handed_later : List SyncMessage) (count : ℕ) → IsAt r now s handed handed_later → count ≡ length handed + length handed_later
      → (handed_on r now s).marks ≡ marks_then r count now s.marks
  marks_handed handed handed_later count at counted =
      marks_kept (made_ready r now s) (made_ready r now s).rest (made_ready r now s).due ∙ made_marks r now s handed handed_later count at counted

  module _ (some : 0 < r.size) (m : SyncMessage) (ms : List SyncMessage) (first : pending_now r now s ≡ m ∷ ms) where
    is_there : is_ready (made_ready r now s) ≡ true
    is_there = ready_there r some (length s.left) now s (omega arith)

    first_ready : pending_now r now (made_ready r now s) ≡ m ∷ ms
    first_ready = ready_pending r (length s.left) now s ∙ first

    -- the first message that is pending is handed out
    pub hands_first : (handed handed_later : List SyncMessage) → IsAt r now s handed handed_later → IsHanded r now (handed_on r now s) (handed ++ handed_later) m
    hands_first handed handed_later at =
        hands_is r now (made_ready r now s) m ms first_ready handed handed_later (ready_is r (length s.left) now s handed handed_later at) is_there

    -- and the others are pending then
    pub pending_then : pending_now r now (handed_on r now s) ≡ ms
    pending_then = first_gone r now (made_ready r now s) m ms first_ready is_there
