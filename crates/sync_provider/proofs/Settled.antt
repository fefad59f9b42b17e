-- A search of which no piece is left to decide.
use Rattle.std.proofs.Common.{◌≡◌, ℕ, suc, ◌+◌, Bool, true, false, cond, List, [], ◌∷◌, ◌++◌, length, refl, ap, sym, ◌∙◌, inl, inr, ◌⊎◌, append_assoc, append-nil}
use Rattle.std.proofs.lemmas.Bool.{true≢false}
use Rattle.entry_tree.specs.declared.op.Write.{Write}
use Rattle.sync_model.specs.Law.{is_nil}
use Rattle.sync_model.specs.Message.{SyncMessage}
use Rattle.sync_model.specs.Stream.{SyncOperation, Start, RefreshPiece, last_mark, refresh, group, later, stream}
use Rattle.sync_slices.specs.Slices.{SlicedRefresh, SliceProgress, pending_now, coming_by, ready_from, made_ready, without_first, written_by, adds_too_much}
use Rattle.directory_writes.specs.Directory.{DirectoryState, with_write}
use Rattle.sync_provider.specs.Queueing.{limits_of, group_of, overflowed, noted_search, search_notified}
use Rattle.sync_provider.specs.Search.{SearchState, sliced, pending, advanced}
use Rattle.sync_provider.proofs.SearchNotified.{pending_open, progress_then}

-- ---- a hand-out decides no piece then

first_left : (p : SliceProgress) (rest due : List SyncMessage) → (without_first p rest due).left ≡ p.left
first_left p (m ∷ rest) due = refl
first_left p [] (m ∷ due) = refl
first_left p [] [] = refl

advanced_none : (d : DirectoryState) (s : SearchState) → s.progress.left ≡ [] → (advanced d s).progress.left ≡ []
advanced_none d s none =
    first_left (made_ready (sliced d s) (length d.writes) s.progress) (made_ready (sliced d s) (length d.writes) s.progress).rest (made_ready (sliced d s) (length d.writes) s.progress).due
    ∙ ap (λ (p : SliceProgress). p.left) (ap (λ us. ready_from (length us) (sliced d s) (length d.writes) s.progress) none)
    ∙ none

-- where pieces are left after a hand-out, some were left before it
pub advanced_left : (d : DirectoryState) (s : SearchState) → is_nil (advanced d s).progress.left ≡ false → is_nil s.progress.left ≡ false
advanced_left d s some = by s.progress.left refl
  where
    by : (us : List ℕ) → s.progress.left ≡ us → is_nil s.progress.left ≡ false
    by [] none = absurd (true≢false (sym (ap is_nil (advanced_none d s none)) ∙ some))
    by (u ∷ us) is = ap is_nil is

-- ---- what is to come of it

-- one write more sends what it changes to a search that goes on
pub stream_more : (operation : SyncOperation) (start : Start) (opened : ℕ) (pieces : List RefreshPiece) (count : ℕ)
    → stream operation start opened pieces (suc count) ≡ stream operation start opened pieces count ++ cond operation.persists (group operation (last_mark opened pieces + count)) []
stream_more operation start opened pieces count = by operation.persists
  where
    last : ℕ
    last = last_mark opened pieces

    refreshed : List SyncMessage
    refreshed = refresh operation start opened pieces

    by : (b : Bool)
        → refreshed ++ cond b (later operation last count ++ group operation (last + count)) []
        ≡ (refreshed ++ cond b (later operation last count) []) ++ cond b (group operation (last + count)) []
    by true = sym (append_assoc refreshed (later operation last count) (group operation (last + count)))
    by false = sym (append-nil (refreshed ++ []))

-- ---- a write

module _ (limit : ℕ) (d : DirectoryState) (w : Write) (s : SearchState) where
  -- one for which a write was too much before is as it was
  pub notified_over : s.over ≡ true → search_notified limit d w s ≡ s
  notified_over on = ap (λ o. cond o s (noted_search (adds_too_much (limits_of limit) r (length d.writes) s.progress) r (length d.writes) s)) on
    where
      r : SlicedRefresh
      r = sliced (with_write d w) s

  -- for another one this is too much, or what it sends or changes is kept
  pub notified_open : s.over ≡ false → (search_notified limit d w s ≡ overflowed s) ⊎ (search_notified limit d w s ≡ record s { progress = progress_then limit d w s })
  notified_open off = by (adds_too_much (limits_of limit) r (length d.writes) s.progress) refl
    where
      r : SlicedRefresh
      r = sliced (with_write d w) s

      by : (b : Bool) → adds_too_much (limits_of limit) r (length d.writes) s.progress ≡ b → (search_notified limit d w s ≡ overflowed s) ⊎ (search_notified limit d w s ≡ record s { progress = progress_then limit d w s })
      by true is = inl (λ i. cond (off i) s (noted_search (is i) r (length d.writes) s))
      by false is = inr (λ i. cond (off i) s (noted_search (is i) r (length d.writes) s))

  -- which leaves the identities of its walk that are not decided
  pub left_then : (progress_then limit d w s).left ≡ s.progress.left
  left_then = by s.progress.left
    where
      by : (us : List ℕ) → (written_by us (sliced (with_write d w) s) (length d.writes) s.progress).left ≡ s.progress.left
      by [] = refl
      by (u ∷ us) = refl

  -- what the write sends
  abbrev pub sent : List SyncMessage
  sent = cond s.persists (group_of d s w) []

  -- where none are left, it is pending after what was
  pub settled_pending : s.over ≡ false → s.progress.left ≡ [] → pending (with_write d w) (record s { progress = progress_then limit d w s }) ≡ pending d s ++ sent
  settled_pending off none =
      pending_open (with_write d w) (record s { progress = progress_then limit d w s }) off
      ∙ ap (λ us. pending_now r (length (with_write d w).writes) (written_by us r (length d.writes) s.progress)) none
      ∙ ap (λ left. s.progress.rest ++ (coming_by left r (length (with_write d w).writes) (record s.progress { due = s.progress.due ++ sent }) ++ (s.progress.due ++ sent))) none
      ∙ sym (append_assoc s.progress.rest s.progress.due sent)
      ∙ ap (λ ms. ms ++ sent) (sym (pending_open d s off ∙ ap (λ left. s.progress.rest ++ (coming_by left (sliced d s) (length d.writes) s.progress ++ s.progress.due)) none))
    where
      r : SlicedRefresh
      r = sliced (with_write d w) s
