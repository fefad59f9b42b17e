-- What a copy has of a search whose refresh is decided piece by piece.
use Rattle.std.proofs.Common.{◌≡◌, ℕ, ◌+◌, ◌-◌, ◌≤◌, true, false, List, [], ◌∷◌, ◌++◌, ap, sym, ◌∙◌, arith, subst, append_assoc, append-nil, inl, inr, ◌⊎◌}
use Rattle.std.proofs.lemmas.Bool.{false≢true}
use Rattle.sync_model.specs.Copy.{Copy, asked, taken_all}
use Rattle.sync_model.specs.Law.{Ascending, IsCut, MayBegin, Shows}
use Rattle.sync_model.specs.Message.{SyncMessage}
use Rattle.sync_model.specs.Stream.{RefreshPiece, last_mark}
use Rattle.sync_model.proofs.Prefixes.{prefix_shows}
use Rattle.sync_model.proofs.Refresh.{marks-last, refresh_ends}
use Rattle.sync_slices.specs.Law.{SliceMoment, SliceTally, IsMarked, IsPrefixOfStream, EndsAtLastPiece}
use Rattle.sync_slices.specs.Slices.{SlicedRefresh, last_of, pieces_of, left_of, rest_piece, all_pieces, pending_now, stream_upto}
use Rattle.sync_slices.proofs.Cutting.{last_mark-push, all-cut}
use Rattle.sync_slices.proofs.Streams.{stream_is}
use Rattle.sync_slices.proofs.Turns.{IsOpen, IsClosed, IsMoment}

module _ (r : SlicedRefresh) (asc : Ascending r.operation) (id : ℕ) (copy : Copy) (begins : MayBegin r.operation r.start r.accepted copy.held) where
  -- the last piece is not after now
  last-rest : (now : ℕ) (left : List ℕ) (ps : List RefreshPiece) → last_mark r.accepted ps ≤ now → last_mark r.accepted (ps ++ rest_piece now left) ≤ now
  last-rest now [] ps low = rw (append-nil ps) low
  last-rest now (u ∷ us) ps low =
      let last : last_mark r.accepted (ps ++ record { uuids = u ∷ us; mark = now } ∷ []) ≡ now = last_mark-push ps r.accepted (record { uuids = u ∷ us; mark = now }) in
      omega (arith, last)

  -- a prefix of what is sent up to a number of writes
  stream_shows : (marks : List ℕ) (number : ℕ) (prefix rest : List SyncMessage) → IsCut r.operation r.start r.accepted (all_pieces r marks number) → last_of r marks ≤ number → prefix ++ rest ≡ stream_upto r marks number
      → Shows r.operation copy r.accepted number (taken_all id (asked id r.operation.persists copy) prefix)
  stream_shows marks number prefix rest cut low whole =
      let last : last_mark r.accepted (all_pieces r marks number) ≤ number = last-rest number (left_of r marks) (pieces_of r marks) low in
      let upto : last_mark r.accepted (all_pieces r marks number) + (number - last_mark r.accepted (all_pieces r marks number)) ≡ number = omega (arith, last) in
      subst (λ n. Shows r.operation copy r.accepted n (taken_all id (asked id r.operation.persists copy) prefix)) upto
      (prefix_shows r.operation asc id r.start r.accepted (all_pieces r marks number) (number - last_mark r.accepted (all_pieces r marks number)) copy prefix rest cut begins whole)

  module _ (m : SliceMoment) (t : SliceTally) (is : IsMoment r m t) where
    -- a copy shows a content between the acceptance and now
    pub moment_shows : (prefix rest : List SyncMessage) → prefix ++ rest ≡ m.handed → Shows r.operation copy r.accepted m.now (taken_all id (asked id r.operation.persists copy) prefix)
    moment_shows prefix rest split = by is.place
      where
        by : ((m.over ≡ false) × IsOpen r m) ⊎ ((m.over ≡ true) × IsClosed r m)
            → Shows r.operation copy r.accepted m.now (taken_all id (asked id r.operation.persists copy) prefix)
        by (inl at) =
            stream_shows m.progress.marks m.now prefix (rest ++ pending_now r m.now m.progress)
            (all-cut r m.progress.marks m.now at.1.at.marked.rises at.1.at.marked.last) at.1.at.marked.last
            (sym (append_assoc prefix rest (pending_now r m.now m.progress))
            ∙ ap (λ ms. ms ++ pending_now r m.now m.progress) (split ∙ sym at.1.all)
            ∙ stream_is r m.now m.progress at.1.handed at.1.handed_later at.1.at)
        by (inr was) =
            let now : IsPrefixOfStream r m.progress.marks m.now m.handed = was.1.begins m.now (omega arith) in
            stream_shows m.progress.marks m.now prefix (rest ++ now.rest) (all-cut r m.progress.marks m.now was.1.rises was.1.last) was.1.last
            (sym (append_assoc prefix rest now.rest) ∙ ap (λ ms. ms ++ now.rest) split ∙ now.split)

    -- a refresh whose pieces are all decided ends at the last of them
    pub moment_ends : m.over ≡ false → m.progress.left ≡ [] → EndsAtLastPiece r m.now m.progress.marks id copy
    moment_ends off none = by is.place
      where
        ends_at : IsMarked r m.now m.progress.marks m.progress.left → EndsAtLastPiece r m.now m.progress.marks id copy
        ends_at marked =
            let cut : IsCut r.operation r.start r.accepted (pieces_of r m.progress.marks) =
            subst (IsCut r.operation r.start r.accepted)
            (ap (λ us. pieces_of r m.progress.marks ++ rest_piece m.now us) (sym marked.left ∙ none) ∙ append-nil (pieces_of r m.progress.marks))
            (all-cut r m.progress.marks m.now marked.rises marked.last)
            in
            let ends = refresh_ends r.operation asc id r.start r.accepted (pieces_of r m.progress.marks) copy cut begins in
            record {
              from = marks-last (pieces_of r m.progress.marks) r.accepted marked.rises;
              upto = marked.last;
              ended = ends.0;
              same = ends.1;
            }

        by : ((m.over ≡ false) × IsOpen r m) ⊎ ((m.over ≡ true) × IsClosed r m) → EndsAtLastPiece r m.now m.progress.marks id copy
        by (inl at) = ends_at at.1.at.marked
        by (inr was) = absurd (false≢true (sym off ∙ was.0))
