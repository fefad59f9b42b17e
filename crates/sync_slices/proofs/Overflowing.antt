-- A write is too much for what is kept exactly where it is by the counts.
use Rattle.std.proofs.Common.{◌≡◌, ℕ, ◌+◌, ◌-◌, false, List, [], ◌∷◌, ◌++◌, length, drop, refl, ap, sym, ◌∙◌, arith, inl, inr, ◌⊎◌, append_assoc, length-append}
use Rattle.std.proofs.Math.Seq.{drop-append_seam}
use Rattle.entry_tree.specs.Touched.{joined}
use Rattle.sync_model.specs.Law.{is_nil}
use Rattle.sync_model.specs.Message.{SyncMessage}
use Rattle.sync_model.specs.Stream.{late_uuids, refresh}
use Rattle.sync_slices.specs.Law.{IsAt, IsWalking, IsSettled}
use Rattle.sync_slices.specs.Slices.{SlicedRefresh, SliceProgress, QueueLimits, pieces_of, later_upto, changed_by, messages_by, grows_too_much, sends_too_much, adds_too_much_by, adds_too_much, is_too_much_by, is_too_much}
use Rattle.sync_slices.proofs.Deciding.{some_left}
use Rattle.sync_slices.proofs.Writing.{later_grows, changed_grows}

module _ (limits : QueueLimits) (r : SlicedRefresh) (now : ℕ) (s : SliceProgress) (handed handed_later : List SyncMessage) (at : IsAt r now s handed handed_later) (count : ℕ) (counted : count ≡ length handed + length handed_later) where
  abbrev sent : List SyncMessage
  sent = messages_by r.operation now

  abbrev refreshed : List SyncMessage
  refreshed = refresh r.operation r.start r.accepted (pieces_of r s.marks)

  -- the messages of later writes that are not handed out are those that are due, and what the write sends
  items_are : IsSettled r now s handed handed_later → drop (count - length refreshed) (later_upto r s.marks (now + 1)) ≡ s.due ++ sent
  items_are is =
      (λ i. drop (skipped is.ordered i) (laters i))
      ∙ drop-append_seam handed_later (s.due ++ sent)
    where
      laters : later_upto r s.marks (now + 1) ≡ handed_later ++ (s.due ++ sent)
      laters =
          later_grows r s.marks now at.marked.last
          ∙ ap (λ ms. ms ++ sent) (sym is.due)
          ∙ append_assoc handed_later s.due sent

      long : length handed + length s.rest ≡ length refreshed
      long = sym (length-append handed s.rest) ∙ ap length is.rest

      skipped : (s.rest ≡ []) ⊎ (handed_later ≡ []) → count - length refreshed ≡ length handed_later
      skipped (inl none) = let no_rest : length s.rest ≡ 0 = ap length none in omega (arith, long, no_rest, counted)
      skipped (inr none) = let no_later : length handed_later ≡ 0 = ap length none in omega (arith, long, no_later, counted)

  -- what changed is counted as it is
  changes_are : IsWalking r now s handed handed_later → grows_too_much limits (length s.changed) (length (joined s.changed (changed_by r.operation now)))
      ≡ grows_too_much limits (length (late_uuids r.operation r.accepted now)) (length (late_uuids r.operation r.accepted (now + 1)))
  changes_are is =
      ap (λ us. grows_too_much limits (length us) (length (joined us (changed_by r.operation now)))) is.changed
      ∙ ap (λ us. grows_too_much limits (length (late_uuids r.operation r.accepted now)) (length us)) (sym (changed_grows r now at.marked.low))

  -- so the two tests agree
  pub too_much_is : adds_too_much limits r now s ≡ is_too_much limits r s.marks count now
  too_much_is = by s.left refl at.place ∙ ap (λ us. is_too_much_by us limits r s.marks count now) at.marked.left
    where
      by : (us : List ℕ) → s.left ≡ us → ((is_nil s.left ≡ false) × IsWalking r now s handed handed_later) ⊎ ((s.left ≡ []) × IsSettled r now s handed handed_later)
          → adds_too_much_by us limits r now s ≡ is_too_much_by us limits r s.marks count now
      by [] none (inl walks) = absurd (some_left s.left walks.0 none)
      by [] none (inr settled) = ap (sends_too_much limits sent) (sym (items_are settled.1))
      by (u ∷ us) some (inl walks) = changes_are walks.1
      by (u ∷ us) some (inr settled) = absurd (some_left (u ∷ us) refl (sym some ∙ settled.0))
