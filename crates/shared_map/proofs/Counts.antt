-- How many pairs there are when one is put in on a side of a pair, or taken out there.
use Rattle.std.proofs.Common.{◌≡◌, ◌+◌, ◌<◌, ◌≤◌, ℕ, Bool, true, false, true≢false, List, ◌∷◌, ◌++◌, length, length-append, sym, arith}
use Rattle.shared_map.specs.Nodes.{count_with}

module _ {E : Type 0} (is_new : Bool) (l m : List E)
    (count : length m ≡ count_with is_new (length l)) where
  -- before the pair
  pub count-lower : (x : E) (r : List E)
      → length (m ++ x ∷ r) ≡ count_with is_new (length (l ++ x ∷ r))
  count-lower x r = by is_new count
    where
      by : (b : Bool) → length m ≡ count_with b (length l)
          → length (m ++ x ∷ r) ≡ count_with b (length (l ++ x ∷ r))
      by true e = omega (arith, e, length-append l (x ∷ r), length-append m (x ∷ r))
      by false e = omega (arith, e, length-append l (x ∷ r), length-append m (x ∷ r))

  -- after the pair
  pub count-higher : (x : E) (r : List E)
      → length (r ++ x ∷ m) ≡ count_with is_new (length (r ++ x ∷ l))
  count-higher x r = by is_new count
    where
      by : (b : Bool) → length m ≡ count_with b (length l)
          → length (r ++ x ∷ m) ≡ count_with b (length (r ++ x ∷ l))
      by true e = omega (arith, e, length-append r (x ∷ l), length-append r (x ∷ m))
      by false e = omega (arith, e, length-append r (x ∷ l), length-append r (x ∷ m))

-- one pair in place of another
pub count-same : {E : Type 0} (l : List E) (x y : E) (r : List E)
    → length (l ++ x ∷ r) ≡ length (l ++ y ∷ r)
count-same l x y r = omega (arith, length-append l (x ∷ r), length-append l (y ∷ r))

-- the pair itself is one
pub count-own : {E : Type 0} (l : List E) (x : E) (r : List E)
    → length (l ++ x ∷ r) ≡ length (l ++ r) + 1
count-own l x r = omega (arith, length-append l (x ∷ r), length-append l r)

-- where one was there, there was one at least
pub count-some : (was_there : Bool) (before after : ℕ) → before ≡ count_with was_there after
    → was_there ≡ true → 0 < before
count-some true before after is there = omega arith
count-some false before after is there = absurd (true≢false (sym there))

-- one number has one number before it
pub count-before : (was_there : Bool) (one other : ℕ)
    → count_with was_there one ≡ count_with was_there other → one ≡ other
count-before true one other same = omega arith
count-before false one other same = same

-- putting a pair in leaves no fewer
pub count-no_less : (was_there : Bool) (count : ℕ) → count ≤ count_with was_there count
count-no_less true count = omega arith
count-no_less false count = omega arith

-- there is one more at most
pub count-small : (is_new : Bool) (count : ℕ) → count_with is_new count ≤ count + 1
count-small true count = omega arith
count-small false count = omega arith
