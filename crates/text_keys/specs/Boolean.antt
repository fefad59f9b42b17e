-- Keys of truth values.
use Rattle.std.specs.Prelude.{ℕ, Bool, ◌||◌, List, Option, bytes_eq, codes}
use Rattle.text_keys.specs.Own.{own_key}

-- Boolean = "TRUE" / "FALSE"  (RFC 4517, section 3.3.3)
abbrev pub is_boolean : List ℕ → Bool
is_boolean text = bytes_eq text (codes "TRUE") || bytes_eq text (codes "FALSE")

unfoldable pub boolean_key : List ℕ → Option (List ℕ)
boolean_key value = own_key (is_boolean value) value
