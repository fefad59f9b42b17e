-- What is found in lists of which one item is changed, and what stands at a place.
use Rattle.std.proofs.Common.{◌≡◌, ◌⊎◌, ◌<◌, ℕ, zero, suc, Bool, true, false, ◌||◌, Some, None, List, [], ◌∷◌, ◌++◌, length, set, get_or, refl, ap, sym, ◌∙◌, inl, inr, arith}
use Rattle.std.proofs.lemmas.Bool.{cases_Bool, or_parts}
use Rattle.std.proofs.lemmas.List.{set-get_or, set-set}
use Rattle.std.proofs.lemmas.Option.{slice_get-get_or}
use Rattle.std.specs.List.{list_any}
use Rattle.std.specs.Prelude.{find, slice_get}
use Rattle.cascade_world.specs.World.{first_changed}

-- ---- what is found

-- what is found is found in a longer list too
pub find-more : {X : Type 0} (test : X → Bool) (xs : List X) (y x : X) → find test xs ≡ Some x → find test (xs ++ y ∷ []) ≡ Some x
find-more test [] y x e = cc
find-more test (z ∷ zs) y x e =
    elim (cases_Bool (test z)) [
      | inl hit ↦ let e' : Some z ≡ Some x = rw hit at e in rw hit e'
      | inr miss ↦ let e' : find test zs ≡ Some x = rw miss at e in rw miss (find-more test zs y x e')
    ]

-- what is found in a longer list was found before, or is the new one
pub find-push : {X : Type 0} (test : X → Bool) (xs : List X) (y x : X) → find test (xs ++ y ∷ []) ≡ Some x → (find test xs ≡ Some x) ⊎ (y ≡ x)
find-push test [] y x e =
    elim (cases_Bool (test y)) [
      | inl hit ↦ let e' : Some y ≡ Some x = rw hit at e in let same : y ≡ x = cc in inr same
      | inr miss ↦ let e' : None ≡ Some x = rw miss at e in cc
    ]
find-push test (z ∷ zs) y x e =
    elim (cases_Bool (test z)) [
      | inl hit ↦ let e' : Some z ≡ Some x = rw hit at e in inl (rw hit e')
      | inr miss ↦ let e' : find test (zs ++ y ∷ []) ≡ Some x = rw miss at e in rw miss (find-push test zs y x e')
    ]

-- the first that the test picks is changed, and is picked still
pub find-changed : {X : Type 0} (test : X → Bool) (change : X → X) (xs : List X) (x : X) → find test xs ≡ Some x → test (change x) ≡ true → find test (first_changed test change xs) ≡ Some (change x)
find-changed test change [] x e still = cc
find-changed test change (y ∷ ys) x e still =
    elim (cases_Bool (test y)) [
      | inl hit ↦
          let e' : Some y ≡ Some x = rw hit at e in
          let same : y ≡ x = cc in
          let now : test (change y) ≡ true = ap (λ z. test (change z)) same ∙ still in
          rw hit (rw now (ap (λ z. Some (change z)) same))
      | inr miss ↦ let e' : find test ys ≡ Some x = rw miss at e in rw miss (rw miss (find-changed test change ys x e' still))
    ]

-- a test that picks what is changed neither before nor after finds the same
pub find-unchanged : {X : Type 0} (test other : X → Bool) (change : X → X) (xs : List X) → ((x : X) → test x ≡ true → (other x ≡ false) × (other (change x) ≡ false)) → find other (first_changed test change xs) ≡ find other xs
find-unchanged test other change [] apart = refl
find-unchanged test other change (y ∷ ys) apart =
    elim (cases_Bool (test y)) [
      | inl hit ↦ let was = (apart y hit).0 in let now = (apart y hit).1 in rw hit (rw now (rw was refl))
      | inr miss ↦
          rw miss (
          elim (cases_Bool (other y)) [
            | inl picked ↦ rw picked refl
            | inr passed ↦ rw passed (find-unchanged test other change ys apart)
          ]
          )
    ]

-- changing the first item that passes leaves the length
pub length-first_changed : {X : Type 0} (test : X → Bool) (change : X → X) (xs : List X) → length (first_changed test change xs) ≡ length xs
length-first_changed test change [] = refl
length-first_changed test change (y ∷ ys) =
    elim (cases_Bool (test y)) [
      | inl hit ↦ rw hit refl
      | inr miss ↦ rw miss (ap suc (length-first_changed test change ys))
    ]

-- what is at the end of a longer list is found where nothing was found before
pub find-last : {X : Type 0} (test : X → Bool) (xs : List X) (y : X) → find test xs ≡ None → test y ≡ true → find test (xs ++ y ∷ []) ≡ Some y
find-last test [] y none hit = rw hit refl
find-last test (z ∷ zs) y none hit =
    elim (cases_Bool (test z)) [
      | inl picked ↦ let bad : Some z ≡ None = rw picked at none in let never : ⊥ = cc in absurd never
      | inr passed ↦ let none' : find test zs ≡ None = rw passed at none in rw passed (find-last test zs y none' hit)
    ]

-- and nothing else
pub find-passed : {X : Type 0} (test : X → Bool) (xs : List X) (y : X) → test y ≡ false → find test (xs ++ y ∷ []) ≡ find test xs
find-passed test [] y miss = rw miss refl
find-passed test (z ∷ zs) y miss =
    elim (cases_Bool (test z)) [
      | inl picked ↦ rw picked refl
      | inr passed ↦ rw passed (find-passed test zs y miss)
    ]

-- nothing is found where no item passes
pub find-nowhere : {X : Type 0} (test : X → Bool) (xs : List X) → list_any test xs ≡ false → find test xs ≡ None
find-nowhere test [] none = refl
find-nowhere test (z ∷ zs) none =
    let parts = or_parts (test z) (list_any test zs) none in
    rw parts.0 (find-nowhere test zs parts.1)

-- one passes where one is found
pub list_any-found : {X : Type 0} (test : X → Bool) (xs : List X) (x : X) → find test xs ≡ Some x → list_any test xs ≡ true
list_any-found test xs x e =
    elim (cases_Bool (list_any test xs)) [
      | inl there ↦ there
      | inr none ↦ let bad : None ≡ Some x = sym (find-nowhere test xs none) ∙ e in cc
    ]

-- whether one passes stays where the change of the first that the test picks leaves that
pub list_any-changed : {X : Type 0} (test other : X → Bool) (change : X → X) (xs : List X) → ((x : X) → test x ≡ true → other (change x) ≡ other x) → list_any other (first_changed test change xs) ≡ list_any other xs
list_any-changed test other change [] same = refl
list_any-changed test other change (x ∷ xs) same =
    elim (cases_Bool (test x)) [
      | inl hit ↦ rw hit (ap (λ b. b || list_any other xs) (same x hit))
      | inr miss ↦ rw miss (ap (λ b. other x || b) (list_any-changed test other change xs same))
    ]

-- ---- what stands at a place

-- each place of a list has an item
pub element : {X : Type 0} (xs : List X) (i : ℕ) → i < length xs → (x : X) × (x ≡ get_or xs i x)
element [] i low = absurd (omega arith)
element (x ∷ xs) zero low = (x, refl)
element (x ∷ xs) (suc i) low = element xs i (omega arith)

-- what stands there is read
pub read_at : {X : Type 0} (xs : List X) (i : ℕ) (x : X) → i < length xs → x ≡ get_or xs i x → slice_get xs i ≡ Some x
read_at xs i x low is = slice_get-get_or xs i x low ∙ ap Some (sym is)

-- the same put in its place changes nothing
pub set_same : {X : Type 0} (xs : List X) (i : ℕ) (x y : X) → x ≡ get_or xs i x → y ≡ x → set xs i y ≡ xs
set_same xs i x y is same = ap (set xs i) (same ∙ is) ∙ set-get_or xs i x

-- what is put back undoes a change
pub set_back : {X : Type 0} (xs : List X) (i : ℕ) (x y z : X) → slice_get xs i ≡ Some x → i < length xs → z ≡ x → set (set xs i y) i z ≡ xs
set_back xs i x y z at low same =
    let both : Some x ≡ Some (get_or xs i x) = sym at ∙ slice_get-get_or xs i x low in
    let is : x ≡ get_or xs i x = cc in
    set-set xs i y z ∙ set_same xs i x z is same
