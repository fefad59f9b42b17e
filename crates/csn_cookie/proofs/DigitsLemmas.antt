-- Fields of digits, written and read.
use Rattle.std.proofs.Common.{◌≡◌, ℕ, zero, suc, ◌+◌, ◌-◌, ◌*◌, ◌/◌, ◌%◌, ◌^◌, ◌<◌, ◌≤◌, false, List, ◌++◌, length, set, drop, Option, Some, None, refl, arith, add-one, sub-one, append_assoc}
use Rattle.std.specs.Prelude.{if◌then◌else◌}
use Rattle.std.specs.Fmt.{digit_glyph}
use Rattle.std.specs.Str.Parse.{digits_value_after}
use Rattle.std.proofs.Math.Nat.{pow-le-pow_left, pow-le-pow_right, mul-le-mul_right}
use Rattle.std.proofs.lemmas.Grind.{pow_more}
use Rattle.std.proofs.lemmas.List.{drop-set}
use Rattle.csn_cookie.specs.Digits.{field, are_digits}

-- the number of the digits that follow those of n, or none where a byte is no digit
abbrev pub number_after : ℕ → ℕ → List ℕ → Option ℕ
number_after base n text = if are_digits base text then Some (digits_value_after base n text) else None

-- one more digit, one more power
pub next_below : (base n d i : ℕ) → n < base ^ i → d < base → n * base + d < base ^ (i + 1)
next_below base n d i small digit =
    let step : (n + 1) * base ≤ base ^ i * base = mul-le-mul_right base (omega arith) in
    rw (pow_more base i) (omega (arith, step))

-- 32 digits of sixteen are the most
pub pow_small : (base i : ℕ) → 1 ≤ base → base ≤ 16 → i ≤ 32 → base ^ i ≤ 2 ^ 128
pow_small base i low high short =
    let digits : base ^ i ≤ base ^ 32 = pow-le-pow_right low short in
    let bases : base ^ 32 ≤ 16 ^ 32 = pow-le-pow_left high 32 in
    omega (arith, digits, bases)

-- the last digit that is left to write
pub field_more : (base place left digit : ℕ) (text : List ℕ) → 0 < place → place ≤ length text → digit ≡ digit_glyph false (left % base)
    → field base place left ++ drop place text ≡ field base (place - 1) (left / base) ++ drop (place - 1) (set text (place - 1) digit)
unfolding field
field_more base zero left digit text low within e = absurd (omega arith)
field_more base (suc place) left digit text low within e =
    let here : place < length text = omega arith in
    rw (e, append_assoc, sub-one, drop-set text place (digit_glyph false (left % base)) here, add-one)

-- no digit is left
pub field_done : (base place left : ℕ) (text : List ℕ) → place ≤ 0 → field base place left ++ drop place text ≡ text
unfolding field
field_done base zero left text done = refl
field_done base (suc place) left text done = absurd (omega arith)
