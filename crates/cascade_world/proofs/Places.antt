-- What stands at the first place that a test picks.
use Rattle.std.proofs.Common.{◌≡◌, ◌+◌, ◌<◌, ℕ, Bool, Some, None, List, [], ◌∷◌, length, set, get_or, ap, sym, ◌∙◌, inl, inr, arith}
use Rattle.std.proofs.lemmas.Bool.{cases_Bool}
use Rattle.std.proofs.lemmas.Bool.Decides.{nat_tests}
use Rattle.std.proofs.lemmas.Option.{slice_get-get_or}
use Rattle.std.proofs.lemmas.List.Folds.{find_at}
use Rattle.std.specs.Prelude.{find, position, nat_lt, slice_get}
use Rattle.std.specs.List.{position_or_len}
use Rattle.std.proofs.Math.Numerals.{one-add}
use Rattle.cascade_world.specs.World.{first_changed}

-- the first place, where there is one
pub position_is : {X : Type 0} (p : X → Bool) (xs : List X) (i : ℕ) → position p xs ≡ Some i → (position_or_len p xs ≡ i) × (i < length xs)
position_is p xs i e =
    elim (cases_Bool (nat_lt (position_or_len p xs) (length xs))) [
      | inl hit ↦ let e' : Some (position_or_len p xs) ≡ Some i = rw hit at e in let s : position_or_len p xs ≡ i = cc in (s, grind (arith, nat_tests))
      | inr miss ↦ let e' : None ≡ Some i = rw miss at e in cc
    ]

-- the item at the first place that passes is what is found
pub found_at : {X : Type 0} (p : X → Bool) (xs : List X) (i : ℕ) (x : X) → position p xs ≡ Some i → x ≡ get_or xs i x → find p xs ≡ Some x
found_at p xs i x e is =
    let at = position_is p xs i e in
    find_at p xs ∙ ap (slice_get xs) at.0 ∙ slice_get-get_or xs i x at.1 ∙ ap Some (sym is)

changed-first : {X : Type 0} (xs : List X) (p : X → Bool) (change : X → X) (x : X) → position_or_len p xs < length xs → x ≡ get_or xs (position_or_len p xs) x
    → set xs (position_or_len p xs) (change x) ≡ first_changed p change xs
changed-first [] p change x l is = absurd (omega arith)
changed-first (y ∷ xs) p change x l is =
    elim (cases_Bool (p y)) [
      | inl hit ↦ let same : x ≡ y = rw hit at is in rw hit (ap (λ z. change z ∷ xs) same)
      | inr miss ↦
          let l' : 1 + position_or_len p xs < length (y ∷ xs) = rw miss at l in
          let is' = rw (miss, one-add) at is in
          rw (miss, one-add) (ap (λ l. y ∷ l) (changed-first xs p change x (omega arith) is'))
    ]

-- a change at the first place
pub changed_at : {X : Type 0} (xs : List X) (p : X → Bool) (change : X → X) (i : ℕ) (x : X) → position p xs ≡ Some i → x ≡ get_or xs i x
    → set xs i (change x) ≡ first_changed p change xs
changed_at xs p change i x e is =
    let at = position_is p xs i e in
    ap (λ k. set xs k (change x)) (sym at.0) ∙ changed-first xs p change x (omega arith) (is ∙ ap (λ k. get_or xs k x) (sym at.0))
