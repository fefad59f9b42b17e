-- A search in its refresh: what it handed out and what is pending are its refresh, of which the last piece is decided now.
use Rattle.std.proofs.Common.{◌≡◌, ℕ, ◌-◌, ◌≤◌, true, false, cond, List, [], ◌∷◌, ◌++◌, length, refl, ap, sym, ◌∙◌, arith, subst, inl, inr, append-nil}
use Rattle.std.proofs.lemmas.Bool.{true≢false}
use Rattle.sync_model.specs.Law.{IsCut, is_nil}
use Rattle.sync_model.specs.Message.{SyncMessage}
use Rattle.sync_model.specs.Stream.{SyncOperation, Start, RefreshPiece, last_mark, refresh, later}
use Rattle.sync_model.proofs.NextMessages.{HasNext}
use Rattle.sync_model.proofs.Refresh.{marks-last}
use Rattle.sync_slices.specs.Law.{IsAt}
use Rattle.sync_slices.specs.Slices.{SlicedRefresh, SliceProgress, pieces_of, left_of, rest_piece, all_pieces, stream_upto}
use Rattle.sync_slices.proofs.Cutting.{last_mark-push}
use Rattle.sync_slices.proofs.Deciding.{none_either}
use Rattle.sync_slices.proofs.Streams.{pending_some}
use Rattle.directory_writes.specs.Directory.{DirectoryState}
use Rattle.sync_provider.specs.Law.{session_at, refresh_at, Delivers}
use Rattle.sync_provider.specs.Search.{SearchState, pending}
use Rattle.sync_provider.proofs.Places.{begins_with_own}
use Rattle.sync_provider.proofs.SearchNotified.{pending_open}
use Rattle.sync_provider.proofs.Streams.{HasHanded, StandsAt, stands_shows, stands_cut}

-- these messages are a refresh, in pieces of which the last has this number of writes
pub record SendsRefresh (operation : SyncOperation) (start : Start) (opened now : ℕ) (messages : List SyncMessage) : Type 0 where
  pub pieces : List RefreshPiece
  pub cut : IsCut operation start opened pieces
  pub last : last_mark opened pieces ≡ now
  pub whole : messages ≡ refresh operation start opened pieces

-- of a search for which a write was too much nothing is left to decide
pub over_left : (d : DirectoryState) (s : SearchState) (before : List SyncMessage) → s.over ≡ true → StandsAt d s before → s.progress.left ≡ []
over_left d s before on (inl open') = absurd (true≢false (sym on ∙ open'.0))
over_left d s before on (inr cut) = ap (λ (progress : SliceProgress). progress.left) cut.1.given

-- of one for which none was, these were handed out
pub handed_of : (d : DirectoryState) (s : SearchState) (before : List SyncMessage) → s.over ≡ false → StandsAt d s before → HasHanded d s before
handed_of d s before off (inl open') = open'.1
handed_of d s before off (inr cut) = absurd (true≢false (sym cut.0 ∙ off))

-- a list that is not empty has a first message
pub has_next : (messages : List SyncMessage) → is_nil messages ≡ false → HasNext messages
has_next [] some = absurd (true≢false some)
has_next (m ∷ messages) some = record { next = m; later = messages; same = refl }

module _ (d : DirectoryState) (s : SearchState) (before : List SyncMessage) (off : s.over ≡ false) (has : HasHanded d s before) where
  abbrev r : SlicedRefresh
  r = refresh_at d s d.writes

  abbrev now : ℕ
  now = length d.writes

  -- its pieces, and what is left of its walk as one more
  abbrev all : List RefreshPiece
  all = all_pieces r s.progress.marks now

  stands : StandsAt d s before
  stands = inl (off, has)

  at : IsAt r now s.progress has.placed.handed has.placed.handed_later
  at = has.placed.place d.writes (begins_with_own d)

  shows : before ++ pending d s ≡ stream_upto r s.progress.marks now
  shows = subst (λ o. Delivers o (before ++ pending d s) (stream_upto r s.progress.marks now)) off (stands_shows d s before d.writes (begins_with_own d) stands)

  cuts : IsCut r.operation s.start s.accepted all
  cuts = stands_cut d s before d.writes (begins_with_own d) stands

  sends_refresh : last_mark s.accepted all ≡ now → SendsRefresh (session_at d s d.writes) s.start s.accepted now (before ++ pending d s)
  sends_refresh last = record {
    pieces = all;
    cut = cuts;
    last = last;
    whole =
        shows
        ∙ ap (λ n. refreshed ++ cond s.persists (later r.operation (last_mark s.accepted all) n) []) none
        ∙ ap (λ ms. refreshed ++ ms) (none_either s.persists)
        ∙ append-nil refreshed;
  }
    where
      refreshed : List SyncMessage
      refreshed = refresh r.operation s.start s.accepted all

      none : now - last_mark s.accepted all ≡ 0
      none = omega (arith, last)

  -- the last of them is decided now where some are left
  last_left : (u : ℕ) (us : List ℕ) → left_of r s.progress.marks ≡ u ∷ us → last_mark s.accepted all ≡ now
  last_left u us is =
      ap (λ left. last_mark s.accepted (pieces_of r s.progress.marks ++ rest_piece now left)) is
      ∙ last_mark-push (pieces_of r s.progress.marks) s.accepted (record { uuids = u ∷ us; mark = now })

  last_low : last_mark s.accepted all ≤ now
  last_low = by (left_of r s.progress.marks) refl
    where
      by : (us : List ℕ) → left_of r s.progress.marks ≡ us → last_mark s.accepted all ≤ now
      by [] none =
          let same : last_mark s.accepted all ≡ last_mark s.accepted (pieces_of r s.progress.marks) =
          ap (λ left. last_mark s.accepted (pieces_of r s.progress.marks ++ rest_piece now left)) none ∙ ap (last_mark s.accepted) (append-nil (pieces_of r s.progress.marks))
          in
          omega (arith, same, at.marked.last)
      by (u ∷ us) is = let same : last_mark s.accepted all ≡ now = last_left u us is in omega (arith, same)

  -- so it is while pieces are left
  pub walking_refresh : is_nil s.progress.left ≡ false → SendsRefresh (session_at d s d.writes) s.start s.accepted now (before ++ pending d s)
  walking_refresh some = sends_refresh (by (left_of r s.progress.marks) refl)
    where
      by : (us : List ℕ) → left_of r s.progress.marks ≡ us → last_mark s.accepted all ≡ now
      by [] none = absurd (true≢false (sym (ap is_nil (at.marked.left ∙ none)) ∙ some))
      by (u ∷ us) is = last_left u us is

  -- and at the acceptance
  pub opened_refresh : s.accepted ≡ now → SendsRefresh (session_at d s d.writes) s.start s.accepted now (before ++ pending d s)
  opened_refresh same = sends_refresh (let low : s.accepted ≤ last_mark s.accepted all = marks-last all s.accepted cuts.rises in omega (arith, same, low, last_low))

  -- while pieces are left something is pending
  pub walking_some : is_nil s.progress.left ≡ false → HasNext (pending d s)
  walking_some some = has_next (pending d s) (ap is_nil (pending_open d s off) ∙ pending_some r now s.progress some)
