-- Gathering goes on over one more piece where it stopped.
use Rattle.std.proofs.Common.{◌≡◌, ℕ, ◌+◌, Bool, true, false, cond, nat_lt, List, [], ◌∷◌, ◌++◌, length, refl, ap, None}
use Rattle.sync_model.specs.Message.SyncMessage.{AddOrModify, IdSet}
use Rattle.sync_model.specs.Stream.{WalkDecision, most_names, whole, left_over}
use Rattle.sync_model.specs.Stream.WalkDecision.{Sends, Names}

-- the whole messages of two lists of decisions: the second begins with the names that the first left over
pub whole-append : (ds es : List WalkDecision) (d : Bool) (names : List ℕ) → whole d names (ds ++ es) ≡ whole d names ds ++ whole d (left_over names ds) es
whole-append [] es d names = refl
whole-append (Sends entry ∷ ds) es d names = ap (λ ms. AddOrModify true entry None ∷ ms) (whole-append ds es d names)
whole-append (Names uuid ∷ ds) es d names = step (nat_lt (length names + 1) most_names) (whole-append ds es d []) (whole-append ds es d (names ++ uuid ∷ [])) where
  step : (b : Bool) → whole d [] (ds ++ es) ≡ whole d [] ds ++ whole d (left_over [] ds) es
      → whole d (names ++ uuid ∷ []) (ds ++ es) ≡ whole d (names ++ uuid ∷ []) ds ++ whole d (left_over (names ++ uuid ∷ []) ds) es
      → cond b (whole d (names ++ uuid ∷ []) (ds ++ es)) (IdSet d (names ++ uuid ∷ []) None ∷ whole d [] (ds ++ es))
      ≡ cond b (whole d (names ++ uuid ∷ []) ds) (IdSet d (names ++ uuid ∷ []) None ∷ whole d [] ds) ++ whole d (cond b (left_over (names ++ uuid ∷ []) ds) (left_over [] ds)) es
  step true full more = more
  step false full more = ap (λ ms. IdSet d (names ++ uuid ∷ []) None ∷ ms) full

-- the names that are left over after both
pub left_over-append : (ds es : List WalkDecision) (names : List ℕ) → left_over names (ds ++ es) ≡ left_over (left_over names ds) es
left_over-append [] es names = refl
left_over-append (Sends entry ∷ ds) es names = left_over-append ds es names
left_over-append (Names uuid ∷ ds) es names = step (nat_lt (length names + 1) most_names) (left_over-append ds es []) (left_over-append ds es (names ++ uuid ∷ [])) where
  step : (b : Bool) → left_over [] (ds ++ es) ≡ left_over (left_over [] ds) es
      → left_over (names ++ uuid ∷ []) (ds ++ es) ≡ left_over (left_over (names ++ uuid ∷ []) ds) es
      → cond b (left_over (names ++ uuid ∷ []) (ds ++ es)) (left_over [] (ds ++ es)) ≡ left_over (cond b (left_over (names ++ uuid ∷ []) ds) (left_over [] ds)) es
  step true full more = more
  step false full more = full
