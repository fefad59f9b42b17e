-- The value of decimal digits.
use Rattle.std.proofs.Common.{◌≡◌, ℕ, ◌+◌, ◌-◌, ◌*◌, ◌<◌, ◌≤◌, List, [], ◌∷◌, ◌++◌, false, None, take, drop, fold, nat_le, refl, ap, arith}
use Rattle.std.proofs.lemmas.Bool.Decides.{nat_tests}
use Rattle.std.proofs.lemmas.List.{take-append-drop}
use Rattle.std.proofs.lemmas.List.Sums.{fold-append}
use Rattle.cascade_script.specs.Words.{value_of, value_up_to}

-- more digits make no less
value_from : (digits : List ℕ) (value : ℕ) → value ≤ fold (λ value digit. value * 10 + (digit - 48)) value digits
value_from [] value = omega arith
value_from (d ∷ digits) value = let more = value_from digits (value * 10 + (d - 48)) in omega arith

-- the first digits of a number are of no greater number
pub value_of-first_part : (digits : List ℕ) (n : ℕ) → value_of (take n digits) ≤ value_of digits
value_of-first_part digits n =
    let parts : value_of (take n digits ++ drop n digits) ≡ fold (λ value digit. value * 10 + (digit - 48)) (value_of (take n digits)) (drop n digits) =
    fold-append (λ value digit. value * 10 + (digit - 48)) 0 (take n digits) (drop n digits) in
    let more = value_from (drop n digits) (value_of (take n digits)) in
    omega (arith, parts, ap value_of (take-append-drop n digits))

-- the digits are above the most where those of their prefix are
pub none_above : (digits : List ℕ) (n most : ℕ) → most < value_of (take n digits) → None ≡ value_up_to most digits
none_above digits n most above =
    let first_part = value_of-first_part digits n in
    let test : nat_le (value_of digits) most ≡ false = grind (arith, nat_tests) in rw test refl
