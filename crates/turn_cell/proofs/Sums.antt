-- Sums over a list of views, and facts of each view, where views change.
use Rattle.std.proofs.Common.{◌≡◌, ◌≢◌, ℕ, zero, suc, ◌+◌, ◌<◌, ◌≤◌, List, [], ◌∷◌, ◌++◌, set, length, sym, refl, ap, subst, ⊎_elim, arith}
use mathlib.Core.Option.{some, some-injective, some-ne-none}
use lib.ListN.{get_elem?}
use Rattle.atomic_table.proofs.Lists.{at_set, at_snoc}
use Rattle.turn_cell.specs.Rule.{total}

module _ {V : Type 0} (f : V → ℕ) where
  -- one view changes
  pub total-set : (views : List V) (place : ℕ) (old new : V) → get_elem? views place ≡ some old
      → total f (set views place new) + f old ≡ total f views + f new
  total-set [] place old new at = absurd (some-ne-none old (sym at))
  total-set (view ∷ views) zero old new at =
      let same : f view ≡ f old = ap f (some-injective view old at) in omega arith
  total-set (view ∷ views) (suc place) old new at =
      let rest = total-set views place old new at in omega arith

  -- one view more
  pub total-snoc : (views : List V) (new : V) → total f (views ++ new ∷ []) ≡ total f views + f new
  total-snoc [] new = omega arith
  total-snoc (view ∷ views) new = let rest = total-snoc views new in omega arith

  -- one view counts for no more than all
  pub le-total : (views : List V) (place : ℕ) (view : V) → get_elem? views place ≡ some view
      → f view ≤ total f views
  le-total [] place view at = absurd (some-ne-none view (sym at))
  le-total (x ∷ xs) zero view at =
      let same : f x ≡ f view = ap f (some-injective x view at) in omega arith
  le-total (x ∷ xs) (suc place) view at = let rest = le-total xs place view at in omega arith

  -- two views are not more than all
  pub two-le-total : (views : List V) (i j : ℕ) (v w : V) → i ≢ j
      → get_elem? views i ≡ some v → get_elem? views j ≡ some w → f v + f w ≤ total f views
  two-le-total [] i j v w apart at_i at_j = absurd (some-ne-none v (sym at_i))
  two-le-total (x ∷ xs) zero zero v w apart at_i at_j = absurd (apart refl)
  two-le-total (x ∷ xs) zero (suc j) v w apart at_i at_j =
      let same : f x ≡ f v = ap f (some-injective x v at_i) in
      let rest = le-total xs j w at_j in omega arith
  two-le-total (x ∷ xs) (suc i) zero v w apart at_i at_j =
      let same : f x ≡ f w = ap f (some-injective x w at_j) in
      let rest = le-total xs i v at_i in omega arith
  two-le-total (x ∷ xs) (suc i) (suc j) v w apart at_i at_j =
      let rest = two-le-total xs i j v w (λ same. apart (ap suc same)) at_i at_j in omega arith

  -- where each counts for nothing, all do
  pub total-none : (views : List V)
      → ((place : ℕ) (view : V) → get_elem? views place ≡ some view → f view ≡ 0)
      → total f views ≡ 0
  total-none [] none = refl
  total-none (view ∷ views) none =
      let first = none zero view refl in
      let rest = total-none views (λ place v at. none (suc place) v at) in omega arith

-- where each counts for no more than for another, all do
pub total-le : {V : Type 0} (f g : V → ℕ) (views : List V)
    → ((place : ℕ) (view : V) → get_elem? views place ≡ some view → f view ≤ g view)
    → total f views ≤ total g views
total-le f g [] le = omega arith
total-le f g (view ∷ views) le =
    let first = le zero view refl in
    let rest = total-le f g views (λ place v at. le (suc place) v at) in omega arith

module _ {V : Type 0} (F : V → Type 0) where
  -- a fact of each view, where one has changed
  pub each-set : (views : List V) (place : ℕ) (new : V) → F new
      → ((other : ℕ) (view : V) → other ≢ place → get_elem? views other ≡ some view → F view)
      → (at : ℕ) (view : V) → get_elem? (set views place new) at ≡ some view → F view
  each-set views place new here others k view is =
      ⊎_elim
      (λ (x : (k ≡ place) × (new ≡ view)). subst F x.1 here)
      (λ (x : (k ≢ place) × (get_elem? views k ≡ some view)). others k view x.0 x.1)
      (at_set views place k new view is)

  -- a fact of each view, where there is one more
  pub each-snoc : (views : List V) (new : V) → F new
      → ((other : ℕ) (view : V) → get_elem? views other ≡ some view → F view)
      → (at : ℕ) (view : V) → get_elem? (views ++ new ∷ []) at ≡ some view → F view
  each-snoc views new here others k view is =
      ⊎_elim
      (λ (x : get_elem? views k ≡ some view). others k view x)
      (λ (x : new ≡ view). subst F x here)
      (at_snoc views new view k is)

-- a place at which a view stands is one of the list
pub place-low : {V : Type 0} (views : List V) (place : ℕ) (view : V)
    → get_elem? views place ≡ some view → place < length views
place-low [] place view at = absurd (some-ne-none view (sym at))
place-low (x ∷ xs) zero view at = omega arith
place-low (x ∷ xs) (suc place) view at = let rest = place-low xs place view at in omega arith
