-- Keys of integers.
use Rattle.std.specs.Prelude.{ℕ, ◌^◌, Bool, false, not, ◌&&◌, ◌==◌, if◌then◌else◌, List, [], ◌∷◌, drop, slice_index, Option, ℤ, pos, neg_ℤ, int_le, int_lt}
use Rattle.std.specs.Char.{is_ascii_digit}
use Rattle.std.specs.List.{list_all}
use Rattle.std.specs.Str.Parse.{starts_with_minus, signed_digits_value}
use Rattle.text_keys.specs.Own.{own_key}
use Rattle.text_keys.specs.Text.{is_empty}

-- number = DIGIT / ( LDIGIT 1*DIGIT ) (RFC 4512, section 1.4): a lone 0, or digits
-- that begin with another
abbrev pub is_number : List ℕ → Bool
is_number [] = false
is_number (d ∷ ds) = if d == 48 then is_empty ds else list_all is_ascii_digit (d ∷ ds)

-- Integer = ( HYPHEN LDIGIT *DIGIT ) / number (RFC 4517, section 3.3.16): a minus
-- before any number but 0
abbrev pub is_integer : List ℕ → Bool
is_integer text =
    if starts_with_minus text then is_number (drop 1 text) && not (slice_index text 1 == 48)
    else is_number text

-- the number that the text of an integer writes
abbrev pub integer_of : List ℕ → ℤ
integer_of text = signed_digits_value 10 text

-- the number has 64 bits with its sign
abbrev pub has_64_bits : ℤ → Bool
has_64_bits z = int_le (neg_ℤ (pos (2 ^ 63))) z && int_lt z (pos (2 ^ 63))

-- an integer within 64 bits
unfoldable pub integer_key : List ℕ → Option (List ℕ)
integer_key value = own_key (is_integer value && has_64_bits (integer_of value)) value
