-- The keys of pairs that stand before, at and after a pair.
use Rattle.std.proofs.Common.{◌≡◌, List, [], ◌∷◌, ◌++◌, Ordering, Less}
use Rattle.std.specs.List.{AllByRecursion}
use Rattle.std.specs.List.Sorted.{IsStrictlySortedBy}
use Rattle.std.specs.Map.{keys_of}

module _ {K : Type 0} {P Q : K → Type 0} (implies : (key : K) → P key → Q key) where
  -- a fact of each key that follows from another one
  pub each_key : (keys : List K) → AllByRecursion P keys → AllByRecursion Q keys
  each_key [] all = tt
  each_key (key ∷ keys) all = (implies key all.0, each_key keys all.1)

module _ {K X : Type 0} (P : K → Type 0) where
  -- what holds of all keys holds of those before
  pub keys_before : (l r : List (K × X)) → AllByRecursion P (keys_of (l ++ r))
      → AllByRecursion P (keys_of l)
  keys_before [] r all = tt
  keys_before (e ∷ l) r all = (all.0, keys_before l r all.1)

  -- and of those after
  pub keys_after : (l r : List (K × X)) → AllByRecursion P (keys_of (l ++ r))
      → AllByRecursion P (keys_of r)
  keys_after [] r all = all
  keys_after (e ∷ l) r all = keys_after l r all.1

module _ {K X : Type 0} (cmp : K → K → Ordering) where
  -- what stands before ascends, and so does what stands after
  pub ascends_before : (l r : List (K × X)) → IsStrictlySortedBy cmp (keys_of (l ++ r))
      → IsStrictlySortedBy cmp (keys_of l)
  unfolding IsStrictlySortedBy
  ascends_before [] r ascends = tt
  ascends_before (e ∷ l) r ascends =
      (keys_before (λ key. cmp e.0 key ≡ Less) l r ascends.0, ascends_before l r ascends.1)

  -- the keys after a pair ascend
  pub ascends_after : (l : List (K × X)) (x : K × X) (r : List (K × X))
      → IsStrictlySortedBy cmp (keys_of (l ++ x ∷ r)) → IsStrictlySortedBy cmp (keys_of r)
  unfolding IsStrictlySortedBy
  ascends_after [] x r ascends = ascends.1
  ascends_after (e ∷ l) x r ascends = ascends_after l x r ascends.1

  -- the keys before are below that of the pair, and the keys after are above it
  pub below_pair : (l : List (K × X)) (x : K × X) (r : List (K × X))
      → IsStrictlySortedBy cmp (keys_of (l ++ x ∷ r))
      → AllByRecursion (λ key. cmp key x.0 ≡ Less) (keys_of l)
  unfolding IsStrictlySortedBy
  below_pair [] x r ascends = tt
  below_pair (e ∷ l) x r ascends =
      ((keys_after (λ key. cmp e.0 key ≡ Less) l (x ∷ r) ascends.0).0, below_pair l x r ascends.1)

  -- the keys after a pair are greater than its own
  pub above_pair : (l : List (K × X)) (x : K × X) (r : List (K × X))
      → IsStrictlySortedBy cmp (keys_of (l ++ x ∷ r))
      → AllByRecursion (λ key. cmp x.0 key ≡ Less) (keys_of r)
  unfolding IsStrictlySortedBy
  above_pair [] x r ascends = ascends.0
  above_pair (e ∷ l) x r ascends = above_pair l x r ascends.1
