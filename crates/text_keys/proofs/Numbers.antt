-- The numbers that two and four digits write.
use Rattle.std.proofs.Common.{◌≡◌, ℕ, suc, ◌+◌, ◌-◌, ◌*◌, ◌<◌, ◌≤◌, true, List, [], ◌∷◌, length, get_or, take, drop, arith, rules, drop-cons, add-one}
use Rattle.std.proofs.lemmas.Str.{digit_value_digit}
use Rattle.std.proofs.lemmas.Str.Parse.{IsNumeralModel, numerals_by_value, digit_at}
use Rattle.std.specs.Char.{is_ascii_digit}
use Rattle.std.specs.Int.{IsInRange}
use Rattle.std.specs.List.{list_all}
use Rattle.std.specs.Str.Parse.{digits_value}
use Rattle.text_keys.specs.Time.{number_at}

-- decimal digits are a way to write numbers
pub digits : IsNumeralModel (λ ds. list_all is_ascii_digit ds ≡ true) (digits_value 10)
digits = numerals_by_value _ (search rules)

digit_in : (ds : List ℕ) (i : ℕ) → list_all is_ascii_digit ds ≡ true → i < length ds → IsInRange 48 57 (get_or ds i 0)
digit_in ds i all within = digit_at ds i (digits.to ds all) within

first_two : (ds : List ℕ) (at : ℕ) → at + 2 ≤ length ds
    → take 2 (drop at ds) ≡ get_or ds at 0 ∷ get_or ds (at + 1) 0 ∷ []
first_two ds at within =
    let here : at < length ds = omega arith in
    let next : suc at < length ds = omega arith in
    rw (add-one, drop-cons ds at 0 here, drop-cons ds (suc at) 0 next)

-- what two digits write
pub number_at-two : (ds : List ℕ) (at : ℕ) → at + 2 ≤ length ds → list_all is_ascii_digit ds ≡ true
    → number_at ds at (at + 2) ≡ 10 * (get_or ds at 0 - 48) + (get_or ds (at + 1) 0 - 48)
unfolding number_at
number_at-two ds at within all =
    let two : at + 2 - at ≡ 2 = omega arith in
    let tens = digit_value_digit (get_or ds at 0) (digit_in ds at all (omega arith)) in
    let units = digit_value_digit (get_or ds (at + 1) 0) (digit_in ds (at + 1) all (omega arith)) in
    rw (two, first_two ds at within) (omega arith)

-- it is less than 100
pub number_at-two-lt : (ds : List ℕ) (at : ℕ) → at + 2 ≤ length ds → list_all is_ascii_digit ds ≡ true → number_at ds at (at + 2) < 100
number_at-two-lt ds at within all =
    let tens = digit_in ds at all (omega arith) in
    let units = digit_in ds (at + 1) all (omega arith) in
    rw (number_at-two ds at within all) (omega arith)

-- what four digits write
pub number_at-four : (ds : List ℕ) → 4 ≤ length ds → number_at ds 0 4 ≡ 100 * number_at ds 0 2 + number_at ds 2 4
unfolding number_at
number_at-four [] within = absurd (omega arith)
number_at-four (a ∷ []) within = absurd (omega arith)
number_at-four (a ∷ b ∷ []) within = absurd (omega arith)
number_at-four (a ∷ b ∷ c ∷ []) within = absurd (omega arith)
number_at-four (a ∷ b ∷ c ∷ d ∷ ds) within = omega arith
