-- Items that pass a test, among those that something is made of.
use Rattle.std.proofs.Common.{◌≡◌, Bool, true, false, if◌then◌else◌, List, [], ◌∷◌, ◌⊎◌, inl, inr, map, filter, find, Some, refl, sym, ap, ◌∙◌}
use Rattle.std.proofs.lemmas.Bool.{false≢true}
use Rattle.drill_plan.proofs.Firsts.{with_first}

module _ {X : Type 0} where
  -- an item that passes is among those that do
  pub filter_yes : (p : X → Bool) (x : X) (xs : List X) → p x ≡ true → filter p (x ∷ xs) ≡ x ∷ filter p xs
  filter_yes p x xs passes = ap (λ b. if b then x ∷ filter p xs else filter p xs) passes

  -- one that fails is not
  pub filter_no : (p : X → Bool) (x : X) (xs : List X) → p x ≡ false → filter p (x ∷ xs) ≡ filter p xs
  filter_no p x xs fails = ap (λ b. if b then x ∷ filter p xs else filter p xs) fails

  -- two tests may be made in either order
  pub filter_swap : (p q : X → Bool) (xs : List X) → filter p (filter q xs) ≡ filter q (filter p xs)
  filter_swap p q [] = refl
  filter_swap p q (x ∷ xs) = by (filter_swap p q xs) (p x) (q x) refl refl
    where
      by : filter p (filter q xs) ≡ filter q (filter p xs) → (a b : Bool) → p x ≡ a → q x ≡ b → filter p (filter q (x ∷ xs)) ≡ filter q (filter p (x ∷ xs))
      by rest true true yes_p yes_q =
          ap (filter p) (filter_yes q x xs yes_q) ∙ filter_yes p x (filter q xs) yes_p ∙ ap (λ ys. x ∷ ys) rest
          ∙ sym (ap (filter q) (filter_yes p x xs yes_p) ∙ filter_yes q x (filter p xs) yes_q)
      by rest true false yes_p no_q =
          ap (filter p) (filter_no q x xs no_q) ∙ rest
          ∙ sym (ap (filter q) (filter_yes p x xs yes_p) ∙ filter_no q x (filter p xs) no_q)
      by rest false true no_p yes_q =
          ap (filter p) (filter_yes q x xs yes_q) ∙ filter_no p x (filter q xs) no_p ∙ rest
          ∙ sym (ap (filter q) (filter_no p x xs no_p))
      by rest false false no_p no_q =
          ap (filter p) (filter_no q x xs no_q) ∙ rest ∙ sym (ap (filter q) (filter_no p x xs no_p))

  -- what passes the one test passes the other too
  pub filter_within : (p q : X → Bool) → ((x : X) → q x ≡ true → p x ≡ true) → (xs : List X)
      → filter q (filter p xs) ≡ filter q xs
  filter_within p q passes [] = refl
  filter_within p q passes (x ∷ xs) = by (filter_within p q passes xs) (p x) (q x) refl refl
    where
      by : filter q (filter p xs) ≡ filter q xs → (a b : Bool) → p x ≡ a → q x ≡ b → filter q (filter p (x ∷ xs)) ≡ filter q (x ∷ xs)
      by rest true true yes_p yes_q =
          ap (filter q) (filter_yes p x xs yes_p) ∙ filter_yes q x (filter p xs) yes_q ∙ ap (λ ys. x ∷ ys) rest
          ∙ sym (filter_yes q x xs yes_q)
      by rest true false yes_p no_q =
          ap (filter q) (filter_yes p x xs yes_p) ∙ filter_no q x (filter p xs) no_q ∙ rest ∙ sym (filter_no q x xs no_q)
      by rest false true no_p yes_q = absurd (false≢true (sym no_p ∙ passes x yes_q))
      by rest false false no_p no_q = ap (filter q) (filter_no p x xs no_p) ∙ rest ∙ sym (filter_no q x xs no_q)

  -- the first that passes is among those of a part that has all that pass
  pub find_within : (p is : X → Bool) → ((x : X) → is x ≡ true → p x ≡ true) → (xs : List X) → find is (filter p xs) ≡ find is xs
  find_within p is passes [] = refl
  find_within p is passes (x ∷ xs) = by (find_within p is passes xs) (p x) (is x) refl refl
    where
      found : (b : Bool) (ys : List X) → is x ≡ b → find is (x ∷ ys) ≡ (if b then Some x else find is ys)
      found b ys eq = ap (λ c. if c then Some x else find is ys) eq

      by : find is (filter p xs) ≡ find is xs → (a b : Bool) → p x ≡ a → is x ≡ b → find is (filter p (x ∷ xs)) ≡ find is (x ∷ xs)
      by rest true true yes_p passing = ap (find is) (filter_yes p x xs yes_p) ∙ found true (filter p xs) passing ∙ sym (found true xs passing)
      by rest true false yes_p failing = ap (find is) (filter_yes p x xs yes_p) ∙ found false (filter p xs) failing ∙ rest ∙ sym (found false xs failing)
      by rest false true no_p passing = absurd (false≢true (sym no_p ∙ passes x passing))
      by rest false false no_p failing = ap (find is) (filter_no p x xs no_p) ∙ rest ∙ sym (found false xs failing)

  -- ---- what is made of a first item

  first_yes : (is : X → Bool) (one other : X → X) (x : X) (xs : List X) → is x ≡ true → with_first is one other (x ∷ xs) ≡ one x ∷ map other xs
  first_yes is one other x xs passes = ap (λ b. if b then one x ∷ map other xs else other x ∷ with_first is one other xs) passes

  first_no : (is : X → Bool) (one other : X → X) (x : X) (xs : List X) → is x ≡ false
      → with_first is one other (x ∷ xs) ≡ other x ∷ with_first is one other xs
  first_no is one other x xs fails = ap (λ b. if b then one x ∷ map other xs else other x ∷ with_first is one other xs) fails

  module _ (p is : X → Bool) (one other : X → X) (has_first : (x : X) → is x ≡ true → p x ≡ true)
      (keeps_one : (x : X) → p (one x) ≡ p x) (keeps_other : (x : X) → p (other x) ≡ p x) where
    filter_map_kept : (xs : List X) → filter p (map other xs) ≡ map other (filter p xs)
    filter_map_kept [] = refl
    filter_map_kept (x ∷ xs) = by (filter_map_kept xs) (p x) refl
      where
        by : filter p (map other xs) ≡ map other (filter p xs) → (b : Bool) → p x ≡ b → filter p (map other (x ∷ xs)) ≡ map other (filter p (x ∷ xs))
        by rest true passing =
            filter_yes p (other x) (map other xs) (keeps_other x ∙ passing) ∙ ap (λ ys. other x ∷ ys) rest
            ∙ sym (ap (map other) (filter_yes p x xs passing))
        by rest false failing =
            filter_no p (other x) (map other xs) (keeps_other x ∙ failing) ∙ rest ∙ sym (ap (map other) (filter_no p x xs failing))

    -- in a part that has the first, it is the first too
    pub filter_first : (xs : List X) → filter p (with_first is one other xs) ≡ with_first is one other (filter p xs)
    filter_first [] = refl
    filter_first (x ∷ xs) = by (filter_first xs) (is x) (p x) refl refl
      where
        by : filter p (with_first is one other xs) ≡ with_first is one other (filter p xs) → (a b : Bool) → is x ≡ a → p x ≡ b → filter p (with_first is one other (x ∷ xs)) ≡ with_first is one other (filter p (x ∷ xs))
        by rest true true passing yes_p =
            ap (filter p) (first_yes is one other x xs passing) ∙ filter_yes p (one x) (map other xs) (keeps_one x ∙ yes_p)
            ∙ ap (λ ys. one x ∷ ys) (filter_map_kept xs)
            ∙ sym (ap (with_first is one other) (filter_yes p x xs yes_p) ∙ first_yes is one other x (filter p xs) passing)
        by rest true false passing no_p = absurd (false≢true (sym no_p ∙ has_first x passing))
        by rest false true failing yes_p =
            ap (filter p) (first_no is one other x xs failing) ∙ filter_yes p (other x) (with_first is one other xs) (keeps_other x ∙ yes_p)
            ∙ ap (λ ys. other x ∷ ys) rest
            ∙ sym (ap (with_first is one other) (filter_yes p x xs yes_p) ∙ first_no is one other x (filter p xs) failing)
        by rest false false failing no_p =
            ap (filter p) (first_no is one other x xs failing) ∙ filter_no p (other x) (with_first is one other xs) (keeps_other x ∙ no_p)
            ∙ rest ∙ sym (ap (with_first is one other) (filter_no p x xs no_p))

  -- it is not of a part, before and after, or nothing is made of it
  abbrev pub IsUnseen : (X → Bool) → (X → X) → X → Type 0
  IsUnseen q f x = ((q x ≡ false) × (q (f x) ≡ false)) ⊎ (f x ≡ x)

  module _ (q is : X → Bool) (one other : X → X) (first_out : (x : X) → is x ≡ true → (q x ≡ false) × (q (one x) ≡ false))
      (unseen : (x : X) → IsUnseen q other x) where
    -- an item whose change the part does not show, before items that are seen alike
    same_after : (x : X) (xs ys : List X) → filter q xs ≡ filter q ys → filter q (other x ∷ xs) ≡ filter q (x ∷ ys)
    same_after x xs ys same = by (unseen x)
      where
        by : IsUnseen q other x → filter q (other x ∷ xs) ≡ filter q (x ∷ ys)
        by (inl out) = filter_no q (other x) xs out.1 ∙ same ∙ sym (filter_no q x ys out.0)
        by (inr stays) =
            ap (λ y. filter q (y ∷ xs)) stays
            ∙ ap (λ zs. if q x then x ∷ zs else zs) same

    filter_map_unseen : (xs : List X) → filter q (map other xs) ≡ filter q xs
    filter_map_unseen [] = refl
    filter_map_unseen (x ∷ xs) = same_after x (map other xs) xs (filter_map_unseen xs)

    -- a part that has not the first shows no change
    pub filter_unseen : (xs : List X) → filter q (with_first is one other xs) ≡ filter q xs
    filter_unseen [] = refl
    filter_unseen (x ∷ xs) = by (filter_unseen xs) (is x) refl
      where
        by : filter q (with_first is one other xs) ≡ filter q xs → (b : Bool) → is x ≡ b → filter q (with_first is one other (x ∷ xs)) ≡ filter q (x ∷ xs)
        by rest true passing =
            let out = first_out x passing in
            ap (filter q) (first_yes is one other x xs passing) ∙ filter_no q (one x) (map other xs) out.1 ∙ filter_map_unseen xs
            ∙ sym (filter_no q x xs out.0)
        by rest false failing =
            ap (filter q) (first_no is one other x xs failing) ∙ same_after x (with_first is one other xs) xs rest
