-- The characters of a text: the first, and the bytes of all.
use Rattle.std.proofs.Common.{◌≡◌, ℕ, zero, suc, ◌+◌, ◌-◌, ◌<◌, ◌≤◌, true, false, List, [], ◌∷◌, length, drop, get_or, Option, Some, None, refl, ap, arith, nat_eq, if◌then◌else◌}
use Rattle.std.proofs.lemmas.List.Sums.{sum_by-cons}
use Rattle.hex.specs.Hex.{hex_digit_value}
use Rattle.dn_names.specs.declared.name_chars.NameChar.{NameChar}
use Rattle.dn_names.specs.declared.name_chars.NameChar.TheVariants.{Plain, Escaped, Hexadecimal, Stray}
use Rattle.dn_names.specs.Reading.{chars_after, chars_of, char_of, char_width, chars_width, escape, hex_pair, is_escapable}

-- the characters from a place on are those of the bytes from there
pub chars_after-drop : (n : ℕ) (text : List ℕ) → chars_after n text ≡ chars_after 0 (drop n text)
chars_after-drop zero [] = refl
chars_after-drop zero (b ∷ bs) = refl
chars_after-drop (suc n) [] = refl
chars_after-drop (suc n) (b ∷ bs) = chars_after-drop n bs

-- the characters of a text are its first one and those of the rest
pub chars_of-cons : (b : ℕ) (bs : List ℕ) → chars_of (b ∷ bs) ≡ char_of b bs ∷ chars_of (drop (char_width (char_of b bs) - 1) bs)
unfolding chars_of
chars_of-cons b bs = ap (λ rest. char_of b bs ∷ rest) (chars_after-drop (char_width (char_of b bs) - 1) bs)

-- the empty text has no characters
pub chars_of-nil : (text : List ℕ) → length text ≡ 0 → chars_of text ≡ []
unfolding chars_of
chars_of-nil [] none = refl
chars_of-nil (b ∷ bs) none = absurd (omega arith)

-- the first character of a text is that of its first byte
pub chars_of-first : (text : List ℕ) → 0 < length text → chars_of text ≡ char_of (get_or text 0 0) (drop 1 text) ∷ chars_of (drop (char_width (char_of (get_or text 0 0) (drop 1 text)) - 1) (drop 1 text))
chars_of-first [] some = absurd (omega arith)
chars_of-first (b ∷ bs) some = chars_of-cons b bs

hex_pair-width : (high low : Option ℕ) (rest : List ℕ) → char_width (hex_pair high low) ≤ suc (suc (length rest)) + 1
hex_pair-width (Some h) (Some l) rest = omega arith
hex_pair-width (Some h) None rest = omega arith
hex_pair-width None low rest = omega arith

escape-width : (rest : List ℕ) → char_width (escape rest) ≤ length rest + 1
escape-width [] = omega arith
escape-width (b ∷ []) = elim (is_escapable b) as (λ e. char_width (if e then Escaped b else Stray) ≤ length (b ∷ []) + 1) [ true ↦ omega arith | false ↦ omega arith ]
escape-width (b ∷ c ∷ rest) =
    elim (is_escapable b) as (λ e. char_width (if e then Escaped b else hex_pair (hex_digit_value b) (hex_digit_value c)) ≤ length (b ∷ c ∷ rest) + 1)
    [ true ↦ omega arith | false ↦ hex_pair-width (hex_digit_value b) (hex_digit_value c) rest ]

char_of-width : (b : ℕ) (rest : List ℕ) → char_width (char_of b rest) ≤ length rest + 1
char_of-width b rest =
    elim (nat_eq b 92) as (λ e. char_width (if e then escape rest else Plain b) ≤ length rest + 1)
    [ true ↦ escape-width rest | false ↦ omega arith ]

-- each character has at least one byte
pub name_char-width : (name_char : NameChar) → 0 < char_width name_char
name_char-width (Plain b) = omega arith
name_char-width (Escaped b) = omega arith
name_char-width (Hexadecimal b) = omega arith
name_char-width Stray = omega arith

chars_after-width : (n : ℕ) (text : List ℕ) → n ≤ length text → chars_width (chars_after n text) + n ≡ length text
chars_after-width zero [] within = refl
chars_after-width zero (b ∷ bs) within =
    omega (
      arith,
      sum_by-cons char_width (char_of b bs) (chars_after (char_width (char_of b bs) - 1) bs),
      name_char-width (char_of b bs),
      char_of-width b bs,
      chars_after-width (char_width (char_of b bs) - 1) bs (omega (arith, name_char-width (char_of b bs), char_of-width b bs)),
    )
chars_after-width (suc n) [] within = absurd (omega arith)
chars_after-width (suc n) (b ∷ bs) within = omega (arith, chars_after-width n bs (omega arith))

-- the characters of a text are as wide as the text is long
pub chars_of-width : (text : List ℕ) → chars_width (chars_of text) ≡ length text
unfolding chars_of
chars_of-width text = omega (arith, chars_after-width 0 text (omega arith))
