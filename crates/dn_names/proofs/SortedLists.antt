-- Lists in strict order: with a key put in, and two with the same members.
use Rattle.std.proofs.Common.{◌≡◌, ◌⊎◌, List, [], ◌∷◌, inl, inr, refl, sym, ◌∙◌, ap}
use Rattle.std.specs.declared.cmp.Ordering.{Ordering}
use Rattle.std.specs.declared.cmp.Ordering.TheVariants.{Less, Equal, Greater}
use Rattle.std.specs.Ordering.{match_ordering, ordering_reverse}
use Rattle.std.specs.Cmp.{IsTotalOrder}
use Rattle.std.specs.BTreeSet.{insert_key}

-- x is an element of xs
abbrev pub In : {K : Type 0} → K → List K → Type 0
In x [] = ⊥
In x (y ∷ ys) = (x ≡ y) ⊎ In x ys

module _ {K : Type 0} (R : K → K → Ordering) where
  -- a key is below each of these
  abbrev pub Below : K → List K → Type 0
  Below x [] = Unit {0}
  Below x (y ∷ ys) = (R x y ≡ Less) × Below x ys

  -- keys ascend
  abbrev pub Sorted : List K → Type 0
  Sorted [] = Unit {0}
  Sorted (x ∷ xs) = Below x xs × Sorted xs

module _ {K : Type 0} {R : K → K → Ordering} (order : IsTotalOrder R) (exact : (x y : K) → R x y ≡ Equal → x ≡ y) where
  turned : (x y : K) (o : Ordering) → R x y ≡ o → R y x ≡ ordering_reverse o
  turned x y o known = order.antisymm y x ∙ ap ordering_reverse known

  not_below_itself : (x : K) → R x x ≡ Less → ⊥
  not_below_itself x less = let greater : R x x ≡ Greater = turned x x Less less in cc

  below_first : (x y : K) (ys : List K) → R x y ≡ Less → Below R y ys → Below R x ys
  below_first x y [] less below = tt
  below_first x y (z ∷ zs) less below = (order.trans x y z less below.0, below_first x y zs less below.1)

  below-insert : (x key : K) (xs : List K) → R x key ≡ Less → Below R x xs → Below R x (insert_key R xs key)
  below-insert x key [] less below = (less, tt)
  below-insert x key (y ∷ ys) less below =
      elim (R key y) as (λ o. Below R x (match_ordering o (key ∷ y ∷ ys) (y ∷ ys) (y ∷ insert_key R ys key)))
      [ Less ↦ (less, below) | Equal ↦ below | Greater ↦ (below.0, below-insert x key ys less below.1) ]

  -- by how the key is to the first of the list, where the rest with the key put in is in order
  sorted_at : (key x : K) (xs : List K) (o : Ordering) → R key x ≡ o → Below R x xs → Sorted R xs → Sorted R (insert_key R xs key)
      → Sorted R (match_ordering o (key ∷ x ∷ xs) (x ∷ xs) (x ∷ insert_key R xs key))
  sorted_at key x xs Less known below sorted rest = ((known, below_first key x xs known below), (below, sorted))
  sorted_at key x xs Equal known below sorted rest = (below, sorted)
  sorted_at key x xs Greater known below sorted rest = (below-insert x key xs (turned key x Greater known) below, rest)

  -- ascending keys ascend with one more at its place
  pub sorted-insert : (xs : List K) (key : K) → Sorted R xs → Sorted R (insert_key R xs key)
  sorted-insert [] key sorted = (tt, tt)
  sorted-insert (x ∷ xs) key sorted = sorted_at key x xs (R key x) refl sorted.0 sorted.1 (sorted-insert xs key sorted.1)

  -- ---- the members after a key was put in

  -- a key after an insertion is the new one or was there before
  pub new_or_old : (m key : K) (xs : List K) → In m (insert_key R xs key) → (m ≡ key) ⊎ In m xs
  new_or_old m key [] member = member
  new_or_old m key (x ∷ xs) member = at (R key x) member (new_or_old m key xs)
    where
      at : (o : Ordering) → In m (match_ordering o (key ∷ x ∷ xs) (x ∷ xs) (x ∷ insert_key R xs key)) → (In m (insert_key R xs key) → (m ≡ key) ⊎ In m xs)
          → (m ≡ key) ⊎ ((m ≡ x) ⊎ In m xs)
      at Less member later = member
      at Equal member later = inr member
      at Greater (inl first) later = inr (inl first)
      at Greater (inr rest) later = elim (later rest) [ inl new ↦ inl new | inr old ↦ inr (inr old) ]

  -- an inserted key is there
  pub new_is_in : (key : K) (xs : List K) → In key (insert_key R xs key)
  new_is_in key [] = inl refl
  new_is_in key (x ∷ xs) = at (R key x) refl (new_is_in key xs)
    where
      at : (o : Ordering) → R key x ≡ o → In key (insert_key R xs key) → In key (match_ordering o (key ∷ x ∷ xs) (x ∷ xs) (x ∷ insert_key R xs key))
      at Less known later = inl refl
      at Equal known later = inl (exact key x known)
      at Greater known later = inr later

  -- a key that was there before an insertion is there after it
  pub old_is_in : (m key : K) (xs : List K) → In m xs → In m (insert_key R xs key)
  old_is_in m key [] member = absurd member
  old_is_in m key (x ∷ xs) member = at (R key x) member (old_is_in m key xs)
    where
      at : (o : Ordering) → (m ≡ x) ⊎ In m xs → (In m xs → In m (insert_key R xs key)) → In m (match_ordering o (key ∷ x ∷ xs) (x ∷ xs) (x ∷ insert_key R xs key))
      at Less member later = inr member
      at Equal member later = member
      at Greater (inl first) later = inl first
      at Greater (inr rest) later = inr (later rest)

  -- ---- lists in order with the same members

  below_each : (x : K) (xs : List K) → Below R x xs → (m : K) → In m xs → R x m ≡ Less
  below_each x [] below m member = absurd member
  below_each x (y ∷ ys) below m (inl first) = rw first below.0
  below_each x (y ∷ ys) below m (inr rest) = below_each x ys below.1 m rest

  same_first : (x y : K) (xs ys : List K) → Below R x xs → Below R y ys → In x (y ∷ ys) → In y (x ∷ xs) → x ≡ y
  same_first x y xs ys below_x below_y (inl same) there = same
  same_first x y xs ys below_x below_y (inr later) (inl same) = sym same
  same_first x y xs ys below_x below_y (inr later) (inr other) =
      absurd (not_below_itself x (order.trans x y x (below_each x xs below_x y other) (below_each y ys below_y x later)))

  in_rest : (x y : K) (xs ys : List K) → Below R x xs → x ≡ y → ((m : K) → In m (x ∷ xs) → In m (y ∷ ys)) → (m : K) → In m xs → In m ys
  in_rest x y xs ys below same all m member =
      elim (all m (inr member)) [
        | inl first ↦ absurd (not_below_itself x (let one : m ≡ x = first ∙ sym same in rw one at (below_each x xs below m member)))
        | inr rest ↦ rest
      ]

  -- ascending lists with the same keys are equal
  pub same_members : (xs ys : List K) → Sorted R xs → Sorted R ys → ((m : K) → In m xs → In m ys) → ((m : K) → In m ys → In m xs) → xs ≡ ys
  same_members [] [] sorted_x sorted_y there back = refl
  same_members [] (y ∷ ys) sorted_x sorted_y there back = absurd (back y (inl refl))
  same_members (x ∷ xs) [] sorted_x sorted_y there back = absurd (there x (inl refl))
  same_members (x ∷ xs) (y ∷ ys) sorted_x sorted_y there back =
      let first : x ≡ y = same_first x y xs ys sorted_x.0 sorted_y.0 (there x (inl refl)) (back y (inl refl)) in
      let rest : xs ≡ ys = same_members xs ys sorted_x.1 sorted_y.1 (in_rest x y xs ys sorted_x.0 first there) (in_rest y x ys xs sorted_y.0 (sym first) back) in
      cc
