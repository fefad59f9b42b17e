-- What `parse` takes of the text of an integer.
use Rattle.std.proofs.Common.{◌≡◌, ℕ, ◌<◌, ◌≢◌, Bool, true, false, ◌==◌, List, [], ◌∷◌, length, get_or, ℤ, FitsSigned, w64, IsAscii, IsUtf8, Result, Ok, Err, is_ok, refl, ap, sym, arith}
use Rattle.std.proofs.lemmas.Bool.{and_parts, false≢true, eqb-true}
use Rattle.std.proofs.lemmas.Int.{ints}
use Rattle.std.proofs.lemmas.Str.{IsUtf8-from_ascii}
use Rattle.std.proofs.lemmas.Str.Ascii.{IsAscii-cons}
use Rattle.std.proofs.lemmas.Str.Parse.{not_in_digits, without_leading_plus_none}
use Rattle.std.specs.Char.{is_ascii_digit}
use Rattle.std.specs.List.{list_all}
use Rattle.std.specs.Str.Parse.{IsNumeral, without_leading_sign, ParsesSigned}
use Rattle.text_keys.proofs.Numbers.{digits}
use Rattle.text_keys.specs.Integer.{is_number, is_integer, integer_of, has_64_bits}

fits_where : (z : ℤ) → FitsSigned w64 z → has_64_bits z ≡ true
fits_where z fits = grind (arith, ints)

fits_only_where : (z : ℤ) → has_64_bits z ≡ true → FitsSigned w64 z
fits_only_where z fits = grind (arith, ints)

number_by_test : (d : ℕ) (ds : List ℕ) (is_zero : Bool) → (d == 48) ≡ is_zero → is_number (d ∷ ds) ≡ true → list_all is_ascii_digit (d ∷ ds) ≡ true
number_by_test d [] true test number = rw (eqb-true d 48 test)
number_by_test d (e ∷ ds) true test number = absurd (false≢true (rw test at number))
number_by_test d ds false test number = rw test at number

-- a number has at least one digit, and digits alone
pub number_digits : (ds : List ℕ) → is_number ds ≡ true → (0 < length ds) × (list_all is_ascii_digit ds ≡ true)
number_digits [] number = absurd (false≢true number)
number_digits (d ∷ ds) number = (omega arith, number_by_test d ds (d == 48) refl number)

digits_ascii : (ds : List ℕ) → list_all is_ascii_digit ds ≡ true → IsAscii ds
digits_ascii [] all = λ i. omega arith
digits_ascii (d ∷ ds) all = let parts = and_parts (is_ascii_digit d) (list_all is_ascii_digit ds) all in IsAscii-cons d ds (grind arith) (digits_ascii ds parts.1)

-- the digits after the sign, and that the whole is ASCII
by_sign : (c : ℕ) (cs : List ℕ) (is_minus : Bool) → (c == 45) ≡ is_minus → is_integer (c ∷ cs) ≡ true
    → IsNumeral 10 (without_leading_sign (c ∷ cs)) × IsAscii (c ∷ cs)
by_sign c cs true test integer =
    let is_minus : c ≡ 45 = eqb-true c 45 test in
    let parts = and_parts (is_number cs) _ (rw test at integer) in
    let number = number_digits cs parts.0 in
    (rw test (number.0, digits.to cs number.1), IsAscii-cons c cs (omega arith) (digits_ascii cs number.1))
by_sign c cs false test integer =
    let number = number_digits (c ∷ cs) (rw test at integer) in
    let no_plus : get_or (c ∷ cs) 0 0 ≢ 43 = not_in_digits digits (c ∷ cs) 43 number.1 (λ digit. omega arith) 0 number.0 in
    (rw (test, without_leading_plus_none (c ∷ cs) no_plus) (number.0, digits.to (c ∷ cs) number.1), digits_ascii (c ∷ cs) number.1)

-- the text of an integer is UTF-8
pub IsUtf8-integer : (text : List ℕ) → is_integer text ≡ true → IsUtf8 text
IsUtf8-integer [] integer = absurd (false≢true integer)
IsUtf8-integer (c ∷ cs) integer = IsUtf8-from_ascii _ (by_sign c cs (c == 45) refl integer).1

numeral : (text : List ℕ) → is_integer text ≡ true → IsNumeral 10 (without_leading_sign text)
numeral [] integer = absurd (false≢true integer)
numeral (c ∷ cs) integer = (by_sign c cs (c == 45) refl integer).0

by_fit : (z : ℤ) (fits : Bool) → has_64_bits z ≡ fits → (FitsSigned w64 z → ⊥) → false ≡ has_64_bits z
by_fit z true test too_long = absurd (too_long (fits_only_where z test))
by_fit z false test too_long = sym test

-- such a text is parsed exactly where its number fits
pub parse_fits : {E : Type 0} (text : List ℕ) (r : Result ℤ E) → is_integer text ≡ true → ParsesSigned w64 10 text r
    → is_ok r ≡ has_64_bits (integer_of text)
parse_fits text (Ok z) integer parsed = sym (fits_where _ parsed.0.1)
parse_fits text (Err e) integer parsed =
    by_fit (integer_of text) _ refl (λ fits. parsed (numeral text integer, fits))

-- the text of an integer of 64 bits is parsed as that integer
pub parse_gives_integer : {E : Type 0} (text : List ℕ) (r : Result ℤ E) → is_integer text ≡ true → has_64_bits (integer_of text) ≡ true
    → ParsesSigned w64 10 text r → r ≡ Ok (integer_of text)
parse_gives_integer text (Ok z) integer fits parsed = ap Ok parsed.1
parse_gives_integer text (Err e) integer fits parsed = absurd (parsed (numeral text integer, fits_only_where _ fits))
