-- Where a mark first stands, and what a list loses at its ends.
use Rattle.std.proofs.Common.{◌≡◌, ℕ, suc, ◌+◌, ◌-◌, ◌≤◌, Bool, true, false, ◌&&◌, List, [], ◌∷◌, ◌++◌, length, take, drop, reverse, Some, None, refl, sym, ◌∙◌, ap, arith, nat_lt, length-append, inl, inr}
use Rattle.std.specs.List.{list_any, list_all, position, position_or_len, prefix_len, suffix_len, slice_split, before_first, after_first, onto_first}
use Rattle.std.specs.Char.{is_ascii_digit}
use Rattle.std.specs.Str.{all_ascii_digits}
use Rattle.std.proofs.lemmas.List.{reverse-append, take_all, take-append-le}
use Rattle.std.proofs.lemmas.List.Splits.{slice_split_first, slice_split-cons_no}
use Rattle.std.proofs.lemmas.Bool.Decides.{nat_tests}
use Rattle.std.proofs.lemmas.Bool.{cases_Bool, lt-ltb, ltb-true, ltb-false, or_parts}

-- a list has a mark exactly where its first place is within
pub any_within : {X : Type 0} (p : X → Bool) (xs : List X) → list_any p xs ≡ nat_lt (position_or_len p xs) (length xs)
any_within p [] = refl
any_within p (x ∷ xs) =
    let step : nat_lt (position_or_len p xs) (length xs) ≡ nat_lt (1 + position_or_len p xs) (suc (length xs)) = grind (arith, nat_tests) in
    elim (cases_Bool (p x)) [
      | inl there ↦ rw there (sym (lt-ltb 0 (suc (length xs)) (omega arith)))
      | inr other ↦ rw other (any_within p xs ∙ step)
    ]

-- a first element that passes the test is taken away with those after it
pub leading-yes : {X : Type 0} (p : X → Bool) (xs : List X) (x : X) (rest : List X) → xs ≡ x ∷ rest → p x ≡ true → drop (prefix_len p xs) xs ≡ drop (prefix_len p rest) rest
leading-yes p xs x rest parts space =
    let next : 1 + prefix_len p rest ≡ suc (prefix_len p rest) = omega arith in
    rw (parts, space, next) refl

-- where the first one fails it, nothing is taken away
pub leading-no : {X : Type 0} (p : X → Bool) (xs : List X) (x : X) (rest : List X) → xs ≡ x ∷ rest → p x ≡ false → drop (prefix_len p xs) xs ≡ xs
leading-no p xs x rest parts other = rw (parts, other) refl

pub ruleset leading = (leading-yes, leading-no)

-- a last element that passes the test is taken away
pub trailing-yes : {X : Type 0} (p : X → Bool) (xs : List X) (x : X) → p x ≡ true
    → take (length (xs ++ x ∷ []) - suffix_len p (xs ++ x ∷ [])) (xs ++ x ∷ []) ≡ take (length xs - suffix_len p xs) xs
trailing-yes p xs x space =
    let left : length (xs ++ x ∷ []) - (1 + prefix_len p (reverse xs)) ≡ length xs - prefix_len p (reverse xs) = omega (arith, length-append xs (x ∷ [])) in
    let short : length xs - prefix_len p (reverse xs) ≤ length xs = omega arith in
    rw (reverse-append xs (x ∷ []), space, left) (take-append-le (length xs - prefix_len p (reverse xs)) xs (x ∷ []) short)

-- a list whose last item does not pass has nothing to cut off
pub trailing-no : {X : Type 0} (p : X → Bool) (xs : List X) (x : X) → p x ≡ false
    → take (length (xs ++ x ∷ []) - suffix_len p (xs ++ x ∷ [])) (xs ++ x ∷ []) ≡ xs ++ x ∷ []
trailing-no p xs x other =
    rw (reverse-append xs (x ∷ []), other) (take_all (length (xs ++ x ∷ []) - 0) (xs ++ x ∷ []) (omega arith))

pub ruleset trailing = (trailing-yes, trailing-no)

-- both tests of digits are the same
pub all_digits : (text : List ℕ) → list_all is_ascii_digit text ≡ all_ascii_digits text
all_digits [] = refl
all_digits (c ∷ cs) = ap (λ rest. is_ascii_digit c && rest) (all_digits cs)

-- the first place that passes is where the part before it ends
pub position-within : {X : Type 0} (p : X → Bool) (xs : List X) (place : ℕ) → position p xs ≡ Some place → (list_any p xs ≡ true) × (place ≡ position_or_len p xs)
position-within p xs place found =
    elim (cases_Bool (nat_lt (position_or_len p xs) (length xs))) [
      | inl within ↦ (any_within p xs ∙ within, (cc))
      | inr beyond ↦ absurd (cc)
    ]

-- where there is no place no item passes
pub position-beyond : {X : Type 0} (p : X → Bool) (xs : List X) → position p xs ≡ None → list_any p xs ≡ false
position-beyond p xs none =
    elim (cases_Bool (nat_lt (position_or_len p xs) (length xs))) [
      | inl within ↦ absurd (cc)
      | inr beyond ↦ any_within p xs ∙ beyond
    ]

-- where no item passes the part before the first is the whole list
pub before_first-none : {X : Type 0} (p : X → Bool) (xs : List X) → list_any p xs ≡ false → before_first p xs ≡ xs
before_first-none p xs none = take_all (position_or_len p xs) xs (ltb-false (position_or_len p xs) (length xs) (sym (any_within p xs) ∙ none))

-- a list is split at the first item that passes
pub slice_split-some : {X : Type 0} (p : X → Bool) (d : X) (xs : List X) → list_any p xs ≡ true → slice_split p xs ≡ before_first p xs ∷ slice_split p (after_first p xs)
slice_split-some p d xs some =
    slice_split_first p xs d (ltb-true (position_or_len p xs) (length xs) (sym (any_within p xs) ∙ some))

-- a list is not split where no item passes
pub slice_split-none : {X : Type 0} (p : X → Bool) (xs : List X) → list_any p xs ≡ false → slice_split p xs ≡ xs ∷ []
slice_split-none p [] none = refl
slice_split-none p (x ∷ xs) none =
    let parts = or_parts (p x) (list_any p xs) none in
    slice_split-cons_no p x xs parts.0 ∙ ap (onto_first x) (slice_split-none p xs parts.1)
