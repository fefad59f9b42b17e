-- The bytes of a filter's text (RFC 4515, section 3).
use Rattle.std.specs.Prelude.{ℕ, ◌-◌, Bool, false, not, ◌&&◌, ◌||◌, ◌==◌, if◌then◌else◌, List, [], ◌∷◌, length, Option, Some, None}
use Rattle.std.specs.Int.{is_in_range}
use Rattle.std.specs.List.{list_all}

abbrev pub is_letter_or_digit : ℕ → Bool
is_letter_or_digit c = is_in_range 97 122 c || (is_in_range 65 90 c || is_in_range 48 57 c)

-- attributedescription (RFC 4512, sections 1.4 and 2.5): a letter, a digit, `-`, `.` or `;`
abbrev pub is_type_byte : ℕ → Bool
is_type_byte c = is_letter_or_digit c || (c == 45 || (c == 46 || c == 59))

abbrev pub all_type_bytes : List ℕ → Bool
all_type_bytes name = list_all is_type_byte name

abbrev pub is_type : List ℕ → Bool
is_type name = not (length name == 0) && all_type_bytes name

-- what a value does not hold by itself: NUL, `(`, `)`, `*` and `\`
abbrev pub is_special : ℕ → Bool
is_special c = c == 0 || (c == 40 || (c == 41 || (c == 42 || c == 92)))

-- HEX
abbrev pub hex_value : ℕ → Option ℕ
hex_value c =
    if is_in_range 48 57 c then Some (c - 48)
    else if is_in_range 97 102 c then Some (c - 87)
    else if is_in_range 65 70 c then Some (c - 55) else None

-- the bytes begin with this one
abbrev pub begins_with : ℕ → List ℕ → Bool
begins_with byte [] = false
begins_with byte (b ∷ bytes) = b == byte
