-- What a field of digits is read as, and what it is the text of.
use Rattle.std.proofs.Common.{◌≡◌, ℕ, zero, suc, ◌+◌, ◌*◌, ◌/◌, ◌%◌, ◌^◌, ◌<◌, ◌≤◌, true, false, ◌&&◌, List, [], ◌∷◌, ◌++◌, length, map, get_or, take, drop, Some, refl, sym, ap, ◌∙◌, arith, add-one, nat_lt, length-append, div-add-mod', subst, inl, inr}
use Rattle.std.specs.Char.{digit_value, is_digit}
use Rattle.std.specs.Fmt.{digit_glyph}
use Rattle.std.specs.Str.Parse.{digits_value, digits_value_after, AllDigits}
use Rattle.std.proofs.Math.Nat.{div-lt_iff_lt-mul, pow-zero, pow-suc}
use Rattle.std.proofs.Math.Arith.{digits_div, digits_mod}
use Rattle.std.proofs.Math.Seq.{take-length}
use Rattle.std.proofs.lemmas.Bool.{and_parts, cases_Bool, ltb-true, ltb-false, lt-ltb, le-ltb}
use Rattle.std.proofs.lemmas.Option.{none-some, some_pair_parts}
use Rattle.std.proofs.lemmas.Bool.Decides.{nat_tests}
use Rattle.std.proofs.lemmas.Int.Digits.{digits_value_push, digits_value-lt}
use Rattle.std.proofs.lemmas.List.{take_at, drop_at, map-append, length-map, take_more, take-map, drop-map, take-append-drop, length-take}
use Rattle.std.proofs.lemmas.List.Folds.{list_all-append}
use Rattle.csn_cookie.specs.Digits.{field, are_digits, number_at, lower_digit}

-- the text begins with a spelling of this one, where hexadecimal digits stand in either case, and goes on with the rest
pub record Spells (text spelled rest : List ℕ) : Type 0 where
  pub prefix : List ℕ
  pub whole : text ≡ prefix ++ rest
  pub lower : map lower_digit prefix ≡ spelled

-- one digit

digit_value-lower_digit : (c : ℕ) → digit_value (lower_digit c) ≡ digit_value c
digit_value-lower_digit c = grind (arith, nat_tests)

digit_value-digit_glyph : (d : ℕ) → d < 16 → digit_value (digit_glyph false d) ≡ d
digit_value-digit_glyph d small = grind (arith, nat_tests)

digit_glyph-digit_value : (c : ℕ) → digit_value c < 16 → digit_glyph false (digit_value c) ≡ lower_digit c
digit_glyph-digit_value c small = grind (arith, nat_tests)

lower_digit-digit_glyph : (d : ℕ) → d < 16 → lower_digit (digit_glyph false d) ≡ digit_glyph false d
lower_digit-digit_glyph d small = grind (arith, nat_tests)

-- digits in either case

-- the number of digits does not depend on their case
pub digits_value_after-lower : (base n : ℕ) (text : List ℕ) → digits_value_after base n (map lower_digit text) ≡ digits_value_after base n text
digits_value_after-lower base n [] = refl
digits_value_after-lower base n (c ∷ text) =
    digits_value_after-lower base (n * base + digit_value (lower_digit c)) text
    ∙ ap (λ v. digits_value_after base (n * base + v) text) (digit_value-lower_digit c)

-- nor does it whether they are digits
pub are_digits-lower : (base : ℕ) (text : List ℕ) → are_digits base (map lower_digit text) ≡ are_digits base text
are_digits-lower base [] = refl
are_digits-lower base (c ∷ text) = rw (digit_value-lower_digit c, are_digits-lower base text)

AllDigits-are_digits : (base : ℕ) (text : List ℕ) → are_digits base text ≡ true → AllDigits base text
AllDigits-are_digits base [] h = tt
AllDigits-are_digits base (c ∷ text) h =
    let parts = and_parts (is_digit c base) (are_digits base text) h in
    (ltb-true _ _ parts.0, AllDigits-are_digits base text parts.1)

-- a field

-- a field is as wide as it is said to be
pub length-field : (base width n : ℕ) → length (field base width n) ≡ width
unfolding field
length-field base zero n = refl
length-field base (suc width) n =
    rw (length-append, length-field base width (n / base)) (omega arith)

-- it has digits alone
pub are_digits-field : (base width n : ℕ) → 2 ≤ base → base ≤ 16 → are_digits base (field base width n) ≡ true
unfolding field
are_digits-field base zero n low high = refl
are_digits-field base (suc width) n low high =
    let digit : n % base < base = omega arith in
    let last : is_digit (digit_glyph false (n % base)) base ≡ true =
    rw (digit_value-digit_glyph (n % base) (omega arith)) (lt-ltb _ _ digit) in
    rw (list_all-append (λ c. is_digit c base) (field base width (n / base)) (digit_glyph false (n % base) ∷ []), are_digits-field base width (n / base) low high, last)

-- they write its number
pub digits_value-field : (base width n : ℕ) → 2 ≤ base → base ≤ 16 → n < base ^ width → digits_value base (field base width n) ≡ n
unfolding field
digits_value-field base zero n low high small = omega (arith, pow-zero base)
digits_value-field base (suc width) n low high small =
    let within : n < base ^ width * base = rw (pow-suc base width) at small in
    let positive : 0 < base = omega arith in
    let fewer : n / base < base ^ width = (div-lt_iff_lt-mul positive).1 within in
    let digit : n % base < 16 = omega arith in
    rw (
      digits_value_push base (field base width (n / base)) (digit_glyph false (n % base)),
      digits_value-field base width (n / base) low high fewer,
      digit_value-digit_glyph (n % base) digit,
    ) (div-add-mod' n base)

-- they are in lower case
pub lower-field : (base width n : ℕ) → 2 ≤ base → base ≤ 16 → map lower_digit (field base width n) ≡ field base width n
unfolding field
lower-field base zero n low high = refl
lower-field base (suc width) n low high =
    let digit : n % base < 16 = omega arith in
    rw (map-append, lower-field base width (n / base) low high, lower_digit-digit_glyph (n % base) digit)

-- one digit more
field-push : (base width : ℕ) (text : List ℕ) (c : ℕ) → base ≤ 16 → digit_value c < base → field base width (digits_value base text) ≡ map lower_digit text
    → field base (suc width) (digits_value base (text ++ c ∷ [])) ≡ map lower_digit (text ++ c ∷ [])
unfolding field
field-push base width text c high digit prefix =
    let glyph = digit_glyph-digit_value c (omega arith) in
    rw (digits_value_push base text c, digits_div (digits_value base text) digit, digits_mod (digits_value base text) digit, prefix, glyph, map-append)

-- the digits of a number are those that spell it, with letters in lower case
pub field-digits_value : (base width : ℕ) (text : List ℕ) → base ≤ 16 → length text ≡ width → are_digits base text ≡ true
    → field base width (digits_value base text) ≡ map lower_digit text
unfolding field
field-digits_value base zero [] high long digits = refl
field-digits_value base zero (c ∷ text) high long digits = absurd (omega arith)
field-digits_value base (suc width) text high long digits =
    let last : width < length text = omega arith in
    let whole : text ≡ take width text ++ get_or text width 0 ∷ [] =
    sym (take-length text) ∙ rw (long, ← add-one) (take_more text width 0 last) in
    let parts = and_parts (are_digits base (take width text)) (is_digit (get_or text width 0) base && true)
    (rw list_all-append at (rw whole at digits)) in
    let digit : digit_value (get_or text width 0) < base = ltb-true _ _ (and_parts (is_digit (get_or text width 0) base) true parts.1).0 in
    let prefix = field-digits_value base width (take width text) high (rw length-take (omega arith)) parts.0 in
    subst (λ t. field base (suc width) (digits_value base t) ≡ map lower_digit t) (sym whole)
    (field-push base width (take width text) (get_or text width 0) high digit prefix)

-- reading a field

read_parts : (base width n : ℕ) (text rest : List ℕ) → number_at base width text ≡ Some (n, rest)
    → (width ≤ length text) × (are_digits base (take width text) ≡ true) × (digits_value base (take width text) ≡ n) × (drop width text ≡ rest)
unfolding number_at
read_parts base width n text rest h =
    elim (cases_Bool (nat_lt (length text) width)) [
      | inl short ↦ absurd (none-some (n, rest) (rw short at h))
      | inr long ↦ elim (cases_Bool (are_digits base (take width text))) [
        | inl digits ↦ let same = some_pair_parts (digits_value base (take width text)) n (drop width text) rest (rw (long, digits) at h) in
            (ltb-false _ _ long, digits, same.0, same.1)
        | inr other ↦ absurd (none-some (n, rest) (rw (long, other) at h))
      ]
    ]

-- what is read is what the text spells
pub number_at-spelled : (base width n : ℕ) (text rest : List ℕ) → base ≤ 16 → number_at base width text ≡ Some (n, rest)
    → (n < base ^ width) × Spells text (field base width n) rest
number_at-spelled base width n text rest high h =
    let read = read_parts base width n text rest h in
    let long : length (take width text) ≡ width = rw length-take (omega (arith, read.0)) in
    let small = digits_value-lt base (take width text) (AllDigits-are_digits base (take width text) read.1) in
    let prefix = field-digits_value base width (take width text) high long read.1 in (
      rw (read.2, long) at small,
      record { prefix = take width text; whole = sym (take-append-drop width text) ∙ ap (λ r. take width text ++ r) read.3; lower = sym (rw read.2 at prefix) },
    )

-- and what the text spells is read
pub spelled-number_at : (base width n : ℕ) (text lower : List ℕ) → 2 ≤ base → base ≤ 16 → n < base ^ width
    → map lower_digit text ≡ field base width n ++ lower
    → (number_at base width text ≡ Some (n, drop width text)) × (map lower_digit (drop width text) ≡ lower)
unfolding number_at
spelled-number_at base width n text lower low high small e =
    let total : length text ≡ width + length lower =
    sym (length-map text lower_digit) ∙ ap length e ∙ rw (length-append, length-field base width n) refl in
    let long : width ≤ length text = omega (arith, total) in
    let seam = length-field base width n in
    let prefix : map lower_digit (take width text) ≡ field base width n =
    sym (take-map lower_digit width text) ∙ ap (take width) e ∙ take_at (field base width n) lower width seam in
    let rest : map lower_digit (drop width text) ≡ lower =
    sym (drop-map lower_digit width text) ∙ ap (drop width) e ∙ drop_at (field base width n) lower width seam in
    let digits : are_digits base (take width text) ≡ true = sym (are_digits-lower base (take width text)) ∙ rw prefix (are_digits-field base width n low high) in
    let value : digits_value base (take width text) ≡ n = sym (digits_value_after-lower base 0 (take width text)) ∙ rw prefix (digits_value-field base width n low high small) in
    (rw (le-ltb (length text) width long, digits, value) refl, rest)
