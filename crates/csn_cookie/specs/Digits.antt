-- Numbers in a fixed count of digits, and the beginning of a text.
use Rattle.std.specs.Prelude.{ℕ, zero, suc, ◌+◌, ◌/◌, ◌%◌, ◌&&◌, Bool, false, List, [], ◌∷◌, ◌++◌, length, take, drop, Option, Some, None, option_map, nat_eq, nat_le, nat_lt, if◌then◌else◌}
use Rattle.std.specs.List.{list_all, list_any, starts_with}
use Rattle.std.specs.Char.{is_digit, is_ascii_uppercase}
use Rattle.std.specs.Fmt.{digit_glyph}
use Rattle.std.specs.Str.Parse.{digits_value}

-- one reading and then another, unless the first is refused
infixl 10 ◌>>=◌
abbrev pub ◌>>=◌ : {A B : Type 0} → Option A → (A → Option B) → Option B
None >>= read = None
(Some x) >>= read = read x

-- the number in n digits of the base, leading zeros and letters in lower case
unfoldable pub field : ℕ → ℕ → ℕ → List ℕ
field base zero number = []
field base (suc width) number =
    field base width (number / base) ++ digit_glyph false (number % base) ∷ []

-- whether each byte is a digit of the base, a letter in either case
abbrev pub are_digits : ℕ → List ℕ → Bool
are_digits base text = list_all (λ c. is_digit c base) text

-- the number that digits of the base spell
abbrev pub number_of : ℕ → List ℕ → Option ℕ
number_of base text = if are_digits base text then Some (digits_value base text) else None

-- the number in the next n digits, and the text after them
unfoldable pub number_at : ℕ → ℕ → List ℕ → Option (ℕ × List ℕ)
number_at base width text =
    if nat_lt (length text) width then None
    else option_map (λ n. (n, drop width text)) (number_of base (take width text))

-- the same, where no letter is in upper case
unfoldable pub lower_number_at : ℕ → ℕ → List ℕ → Option (ℕ × List ℕ)
lower_number_at base width text =
    if list_any is_ascii_uppercase (take width text) then None else number_at base width text

-- the text after these bytes, where it begins with them
unfoldable pub after : List ℕ → List ℕ → Option (List ℕ)
after prefix text =
    if starts_with nat_eq text prefix then Some (drop (length prefix) text) else None

-- the value that was read, where no text is left
abbrev pub whole : {A : Type 0} → A × List ℕ → Option A
whole (x, []) = Some x
whole (x, c ∷ rest) = None

-- a hexadecimal digit in lower case, and any other byte as it is
abbrev pub lower_digit : ℕ → ℕ
lower_digit c = if nat_le 65 c && nat_le c 70 then c + 32 else c
