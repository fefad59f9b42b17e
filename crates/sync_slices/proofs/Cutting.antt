-- The pieces of a walk, and one piece more.
use Rattle.std.proofs.Common.{◌≡◌, ℕ, ◌≤◌, List, [], ◌∷◌, ◌++◌, take, drop, refl, ap, ◌∙◌, append_assoc, append-nil, take-append-drop}
use Rattle.std.specs.Prelude.{flat_map}
use Rattle.std.proofs.lemmas.Grind.{flat_map-append}
use Rattle.sync_model.specs.Law.{MarksRise, IsCut}
use Rattle.sync_model.specs.Stream.{RefreshPiece, walk, decide_piece, last_mark}
use Rattle.sync_slices.specs.Slices.{SlicedRefresh, pieces_at, undecided, pieces_of, left_of, decisions_of, decisions_now, rest_piece, all_pieces}

-- one piece more is cut from what was left
pub pieces-push : (marks : List ℕ) (size : ℕ) (uuids : List ℕ) (mark : ℕ)
    → pieces_at (marks ++ mark ∷ []) size uuids ≡ pieces_at marks size uuids ++ record { uuids = take size (undecided marks size uuids); mark = mark } ∷ []
pieces-push [] size uuids mark = refl
pieces-push (m ∷ marks) size uuids mark = ap (λ ps. record { uuids = take size uuids; mark = m } ∷ ps) (pieces-push marks size (drop size uuids) mark)

-- and the rest is left then
pub undecided-push : (marks : List ℕ) (size : ℕ) (uuids : List ℕ) (mark : ℕ) → undecided (marks ++ mark ∷ []) size uuids ≡ drop size (undecided marks size uuids)
undecided-push [] size uuids mark = refl
undecided-push (m ∷ marks) size uuids mark = undecided-push marks size (drop size uuids) mark

-- the pieces and what is left are the walk
pub pieces-cut : (marks : List ℕ) (size : ℕ) (uuids : List ℕ) → flat_map (λ (p : RefreshPiece). p.uuids) (pieces_at marks size uuids) ++ undecided marks size uuids ≡ uuids
pieces-cut [] size uuids = refl
pieces-cut (m ∷ marks) size uuids =
    append_assoc (take size uuids) (flat_map (λ (p : RefreshPiece). p.uuids) (pieces_at marks size (drop size uuids))) (undecided marks size (drop size uuids))
    ∙ ap (λ us. take size uuids ++ us) (pieces-cut marks size (drop size uuids))
    ∙ take-append-drop size uuids

-- the mark of the last piece is the last one
pub last_mark-push : (ps : List RefreshPiece) (r : ℕ) (p : RefreshPiece) → last_mark r (ps ++ p ∷ []) ≡ p.mark
last_mark-push [] r p = refl
last_mark-push (q ∷ ps) r p = last_mark-push ps q.mark p

-- the marks of some pieces and one more rise where it is not before the last
pub rise-push : (ps : List RefreshPiece) (r : ℕ) (p : RefreshPiece) → MarksRise r ps → last_mark r ps ≤ p.mark → MarksRise r (ps ++ p ∷ [])
rise-push [] r p h low = (low, tt)
rise-push (q ∷ ps) r p h low = (h.0, rise-push ps q.mark p h.1 low)

module _ (r : SlicedRefresh) where
  -- what is decided of some pieces and one more
  pub decisions-push : (marks : List ℕ) (now : ℕ) → decisions_of r (marks ++ now ∷ []) ≡ decisions_of r marks ++ decisions_now r now (take r.size (left_of r marks))
  decisions-push marks now =
      ap (flat_map (decide_piece r.operation r.start)) (pieces-push marks r.size (walk r.operation r.start r.accepted) now)
      ∙ flat_map-append (decide_piece r.operation r.start) (pieces_of r marks) (record { uuids = take r.size (left_of r marks); mark = now } ∷ [])
      ∙ ap (λ ds. decisions_of r marks ++ ds) (append-nil (decisions_now r now (take r.size (left_of r marks))))

  -- the pieces with one that has all that is left, which cut the walk
  rest-uuids : (now : ℕ) (left : List ℕ) → flat_map (λ (p : RefreshPiece). p.uuids) (rest_piece now left) ≡ left
  rest-uuids now [] = refl
  rest-uuids now (u ∷ us) = append-nil (u ∷ us)

  rise-rest : (now : ℕ) (left : List ℕ) (ps : List RefreshPiece) → MarksRise r.accepted ps → last_mark r.accepted ps ≤ now → MarksRise r.accepted (ps ++ rest_piece now left)
  rise-rest now [] ps h low = rw (append-nil ps) h
  rise-rest now (u ∷ us) ps h low = rise-push ps r.accepted (record { uuids = u ∷ us; mark = now }) h low

  -- they cut the walk
  pub all-cut : (marks : List ℕ) (now : ℕ) → MarksRise r.accepted (pieces_of r marks) → last_mark r.accepted (pieces_of r marks) ≤ now → IsCut r.operation r.start r.accepted (all_pieces r marks now)
  all-cut marks now rises low = record {
    cut =
        flat_map-append (λ (p : RefreshPiece). p.uuids) (pieces_of r marks) (rest_piece now (left_of r marks))
        ∙ ap (λ us. flat_map (λ (p : RefreshPiece). p.uuids) (pieces_of r marks) ++ us) (rest-uuids now (left_of r marks))
        ∙ pieces-cut marks r.size (walk r.operation r.start r.accepted);
    rises = rise-rest now (left_of r marks) (pieces_of r marks) rises low;
  }
