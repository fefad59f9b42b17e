-- The first item of a list that passes a test, and what is made of it and of the others.
use Rattle.std.proofs.Common.{◌≡◌, ℕ, Bool, true, false, nat_lt, if◌then◌else◌, List, [], ◌∷◌, map, filter, find, Some, None, option_map, refl, sym, ap, ◌∙◌, subst, arith}
use Rattle.std.proofs.lemmas.Bool.{and_parts, ltb-true, eq-eqb, ne_eqb}
use Rattle.std.proofs.lemmas.Option.{none-some, same_Some}
use Rattle.entry_writes.specs.State.{ascends, is_identified}
use Rattle.entry_writes.specs.declared.entry.Entry.{Entry}
use Rattle.entry_writes.proofs.Identities.{above}

-- what `one` makes of the first item that passes, and `other` of all others
abbrev pub with_first : {A B : Type 0} → (A → Bool) → (A → B) → (A → B) → List A → List B
with_first is one other [] = []
with_first is one other (x ∷ xs) =
    if is x then one x ∷ map other xs else other x ∷ with_first is one other xs

module _ {A B : Type 0} where
  -- functions that agree on each item agree on the list
  pub mapped_same : (f g : A → B) → ((x : A) → f x ≡ g x) → (xs : List A) → map f xs ≡ map g xs
  mapped_same f g same [] = refl
  mapped_same f g same (x ∷ xs) =
      ap (λ y. y ∷ map f xs) (same x) ∙ ap (λ ys. g x ∷ ys) (mapped_same f g same xs)

  -- what is made of the items that pass are the images that pass
  pub filter_mapped : (f : A → B) (p : A → Bool) (q : B → Bool) → ((x : A) → q (f x) ≡ p x) → (xs : List A)
      → map f (filter p xs) ≡ filter q (map f xs)
  filter_mapped f p q same [] = refl
  filter_mapped f p q same (x ∷ xs) =
      let rest = filter_mapped f p q same xs in
      rw (same x)
      (elim (p x) as (λ b.
      map f (if b then x ∷ filter p xs else filter p xs)
      ≡ (if b then f x ∷ filter q (map f xs) else filter q (map f xs)))
      [ true ↦ ap (λ ys. f x ∷ ys) rest | false ↦ rest ])

  -- the first image that passes is that of the first item that does
  pub find_mapped : (f : A → B) (p : A → Bool) (q : B → Bool) → ((x : A) → q (f x) ≡ p x) → (xs : List A)
      → find q (map f xs) ≡ option_map f (find p xs)
  find_mapped f p q same [] = refl
  find_mapped f p q same (x ∷ xs) =
      let rest = find_mapped f p q same xs in
      rw (same x)
      (elim (p x) as (λ b.
      (if b then Some (f x) else find q (map f xs)) ≡ option_map f (if b then Some x else find p xs))
      [ true ↦ refl | false ↦ rest ])

-- the first is the one that is found
pub with_first_found : {A B : Type 0} (is : A → Bool) (one same other : A → B) (xs : List A) (top : A)
    → find is xs ≡ Some top → one top ≡ same top → with_first is one other xs ≡ with_first is same other xs
with_first_found is one same other [] top found agree = absurd (none-some top found)
with_first_found {A} {B} is one same other (x ∷ xs) top found agree =
    by (λ later. with_first_found is one same other xs top later agree) (is x) refl
  where
    by : (find is xs ≡ Some top → with_first is one other xs ≡ with_first is same other xs) → (b : Bool) → is x ≡ b
        → with_first is one other (x ∷ xs) ≡ with_first is same other (x ∷ xs)
    by rest true passes =
        let first : Some x ≡ Some top = subst (λ b. (if b then Some x else find is xs) ≡ Some top) passes found in
        let top_is : x ≡ top = same_Some x top first in
        rw passes (ap (λ y. y ∷ map other xs) (ap one top_is ∙ agree ∙ ap same (sym top_is)))
    by rest false fails =
        let later : find is xs ≡ Some top = subst (λ b. (if b then Some x else find is xs) ≡ Some top) fails found in
        rw fails (ap (λ ys. other x ∷ ys) (rest later))

-- where none passes
pub with_first_none : {A B : Type 0} (is : A → Bool) (one other : A → B) (xs : List A)
    → find is xs ≡ None → with_first is one other xs ≡ map other xs
with_first_none is one other [] found = refl
with_first_none {A} {B} is one other (x ∷ xs) found = by (λ later. with_first_none is one other xs later) (is x) refl
  where
    by : (find is xs ≡ None → with_first is one other xs ≡ map other xs) → (b : Bool) → is x ≡ b
        → with_first is one other (x ∷ xs) ≡ map other (x ∷ xs)
    by rest true passes =
        let some : Some x ≡ None = subst (λ b. (if b then Some x else find is xs) ≡ None) passes found in
        absurd (none-some x (sym some))
    by rest false fails =
        let later : find is xs ≡ None = subst (λ b. (if b then Some x else find is xs) ≡ None) fails found in
        rw fails (ap (λ ys. other x ∷ ys) (rest later))

-- what is seen of the items goes on to be seen
pub with_first_mapped : {A B : Type 0} (f : A → B) (is : A → Bool) (one other : A → A) (is_seen : B → Bool) (one_seen other_seen : B → B)
    → ((x : A) → is_seen (f x) ≡ is x) → ((x : A) → f (one x) ≡ one_seen (f x)) → ((x : A) → f (other x) ≡ other_seen (f x))
    → (xs : List A) → map f (with_first is one other xs) ≡ with_first is_seen one_seen other_seen (map f xs)
with_first_mapped f is one other is_seen one_seen other_seen test first later [] = refl
with_first_mapped {A} {B} f is one other is_seen one_seen other_seen test first later (x ∷ xs) =
    let rest = with_first_mapped f is one other is_seen one_seen other_seen test first later xs in
    rw (test x)
    (elim (is x) as (λ b.
    map f (if b then one x ∷ map other xs else other x ∷ with_first is one other xs)
    ≡ (if b then one_seen (f x) ∷ map other_seen (map f xs) else other_seen (f x) ∷ with_first is_seen one_seen other_seen (map f xs))) [
      | true ↦ ap (λ y. y ∷ map f (map other xs)) (first x) ∙ ap (λ ys. one_seen (f x) ∷ ys) (mapped_later xs)
      | false ↦ ap (λ y. y ∷ map f (with_first is one other xs)) (later x) ∙ ap (λ ys. other_seen (f x) ∷ ys) rest
    ])
  where
    mapped_later : (ys : List A) → map f (map other ys) ≡ map other_seen (map f ys)
    mapped_later [] = refl
    mapped_later (y ∷ ys) =
        ap (λ z. z ∷ map f (map other ys)) (later y) ∙ ap (λ zs. other_seen (f y) ∷ zs) (mapped_later ys)

-- ---- entries in ascending order of identity

-- what `one` makes of the entry with the identity, and `other` of all others
abbrev pub made_by : {B : Type 0} → (Entry → B) → (Entry → B) → ℕ → Entry → B
made_by one other uuid e = if is_identified uuid e then one e else other e

others_mapped : {B : Type 0} (uuid : ℕ) (one other : Entry → B) (entries : List Entry) → above uuid entries ≡ true
    → map (made_by one other uuid) entries ≡ map other entries
others_mapped uuid one other [] high = refl
others_mapped uuid one other (x ∷ xs) high =
    let both = and_parts (nat_lt uuid x.uuid) (above uuid xs) high in
    let less = ltb-true uuid x.uuid both.0 in
    let isnt : is_identified uuid x ≡ false = ne_eqb x.uuid uuid (λ same. omega (arith, less, same)) in
    ap (λ b. (if b then one x else other x) ∷ map (made_by one other uuid) xs) isnt
    ∙ ap (λ ys. other x ∷ ys) (others_mapped uuid one other xs both.1)

found_above : (is : Entry → Bool) (uuid : ℕ) (entries : List Entry) (top : Entry) → above uuid entries ≡ true
    → find is entries ≡ Some top → nat_lt uuid top.uuid ≡ true
found_above is uuid [] top high found = absurd (none-some top found)
found_above is uuid (x ∷ xs) top high found =
    let both = and_parts (nat_lt uuid x.uuid) (above uuid xs) high in
    by both.0 (λ later. found_above is uuid xs top both.1 later) (is x) refl
  where
    by : nat_lt uuid x.uuid ≡ true → (find is xs ≡ Some top → nat_lt uuid top.uuid ≡ true) → (b : Bool) → is x ≡ b
        → nat_lt uuid top.uuid ≡ true
    by low rest true passes =
        let first : Some x ≡ Some top = subst (λ b. (if b then Some x else find is xs) ≡ Some top) passes found in
        subst (λ (e : Entry). nat_lt uuid e.uuid ≡ true) (same_Some x top first) low
    by low rest false fails = rest (subst (λ b. (if b then Some x else find is xs) ≡ Some top) fails found)

-- the first that passes is the one with its identity
pub first_identified : {B : Type 0} (is : Entry → Bool) (one other : Entry → B) (entries : List Entry) (top : Entry)
    → ascends entries ≡ true → find is entries ≡ Some top
    → map (made_by one other top.uuid) entries ≡ with_first is one other entries
first_identified is one other [] top rise found = absurd (none-some top found)
first_identified {B} is one other (x ∷ xs) top rise found =
    let both = and_parts (above x.uuid xs) (ascends xs) rise in
    by both.0 (λ later. first_identified is one other xs top both.1 later) (is x) refl
  where
    by : above x.uuid xs ≡ true → (find is xs ≡ Some top → map (made_by one other top.uuid) xs ≡ with_first is one other xs)
        → (b : Bool) → is x ≡ b
        → map (made_by one other top.uuid) (x ∷ xs) ≡ with_first is one other (x ∷ xs)
    by high rest true passes =
        let first : Some x ≡ Some top = subst (λ b. (if b then Some x else find is xs) ≡ Some top) passes found in
        let top_is : x ≡ top = same_Some x top first in
        let here : map (made_by one other x.uuid) (x ∷ xs) ≡ one x ∷ map other xs =
        ap (λ b. (if b then one x else other x) ∷ map (made_by one other x.uuid) xs) (eq-eqb x.uuid x.uuid refl)
        ∙ ap (λ ys. one x ∷ ys) (others_mapped x.uuid one other xs high) in
        rw passes (subst (λ (e : Entry). map (made_by one other e.uuid) (x ∷ xs) ≡ one x ∷ map other xs) top_is here)
    by high rest false fails =
        let later : find is xs ≡ Some top = subst (λ b. (if b then Some x else find is xs) ≡ Some top) fails found in
        let less = ltb-true x.uuid top.uuid (found_above is x.uuid xs top high later) in
        let isnt : is_identified top.uuid x ≡ false = ne_eqb x.uuid top.uuid (λ same. omega (arith, less, same)) in
        rw fails
        (ap (λ b. (if b then one x else other x) ∷ map (made_by one other top.uuid) xs) isnt
        ∙ ap (λ ys. other x ∷ ys) (rest later))
