-- The text of a filter (RFC 4515, section 3).
use Rattle.std.specs.Prelude.{ℕ, ◌+◌, ◌-◌, ◌/◌, ◌%◌, Bool, true, false, not, ◌&&◌, ◌==◌, if◌then◌else◌, List, [], ◌∷◌, ◌++◌, length, Option, Some, None, codes, nat_lt}
use Rattle.std.specs.List.{list_all, flat_map}
use Rattle.std.specs.Str.Lossy.{utf8_valid_len}
use Rattle.ldap_filter.specs.Grammar.{is_type, is_special}
use Rattle.ldap_filter.specs.Pieces.{has_piece}
use Rattle.ldap_filter.specs.FilterTree.{FilterTree, Trees, all_of, any_of, negated, equal, substrings, at_least, at_most, present, approx, extensible, no_trees, more_trees}

-- ---- what has a text

abbrev pub is_filled : List ℕ → Bool
is_filled piece = not (length piece == 0)

-- an empty piece would be read as no piece
abbrev pub is_absent_or_filled : Option (List ℕ) → Bool
is_absent_or_filled None = true
is_absent_or_filled (Some piece) = is_filled piece

abbrev pub are_filled : Option (List ℕ) → List (List ℕ) → Option (List ℕ) → Bool
are_filled initial middle last =
    is_absent_or_filled initial && (list_all is_filled middle && is_absent_or_filled last)

abbrev pub has_substrings_text : List ℕ → Option (List ℕ) → List (List ℕ) → Option (List ℕ) → Bool
has_substrings_text name initial middle last = is_type name && are_filled initial middle last

-- all types are of the form of a type, no piece is empty, and nothing is extensible
abbrev mutual
  pub has_text : FilterTree → Bool
  has_text (all_of ts) = have_texts ts
  has_text (any_of ts) = have_texts ts
  has_text (negated t) = has_text t
  has_text (equal name value) = is_type name
  has_text (substrings name initial middle last) = has_substrings_text name initial middle last
  has_text (at_least name value) = is_type name
  has_text (at_most name value) = is_type name
  has_text (present name) = is_type name
  has_text (approx name value) = is_type name
  has_text (extensible body) = false

  pub have_texts : Trees → Bool
  have_texts no_trees = true
  have_texts (more_trees t ts) = has_text t && have_texts ts

-- ---- what is sound

abbrev pub are_bytes : List ℕ → Bool
are_bytes value = list_all (λ b. nat_lt b 256) value

abbrev pub is_absent_or_bytes : Option (List ℕ) → Bool
is_absent_or_bytes None = true
is_absent_or_bytes (Some piece) = are_bytes piece

abbrev pub are_sound_pieces : Option (List ℕ) → List (List ℕ) → Option (List ℕ) → Bool
are_sound_pieces initial middle last =
    has_piece initial middle last
    && (is_absent_or_bytes initial && (list_all are_bytes middle && is_absent_or_bytes last))

-- values are bytes, and no substring filter is without a piece: so is each filter that is held
abbrev mutual
  pub is_sound : FilterTree → Bool
  is_sound (all_of ts) = are_sound ts
  is_sound (any_of ts) = are_sound ts
  is_sound (negated t) = is_sound t
  is_sound (equal name value) = are_bytes value
  is_sound (substrings name initial middle last) = are_sound_pieces initial middle last
  is_sound (at_least name value) = are_bytes value
  is_sound (at_most name value) = are_bytes value
  is_sound (present name) = true
  is_sound (approx name value) = are_bytes value
  is_sound (extensible body) = true

  pub are_sound : Trees → Bool
  are_sound no_trees = true
  are_sound (more_trees t ts) = is_sound t && are_sound ts

-- ---- values

abbrev pub hex_digit : ℕ → ℕ
hex_digit n = if nat_lt n 10 then 48 + n else 87 + n

-- escaped = ESC HEX HEX, in lower case
abbrev pub escape : ℕ → List ℕ
escape byte = 92 ∷ (hex_digit (byte / 16) ∷ (hex_digit (byte % 16) ∷ []))

-- a byte of UTF-8 text
abbrev pub text_byte : ℕ → List ℕ
text_byte byte = if is_special byte then escape byte else byte ∷ []

-- a value, of which n bytes at the start are known to be UTF-8 text; where none is known,
-- those of the longest prefix that is; a byte that is not part of UTF-8 text is escaped
abbrev pub value_text_after : ℕ → List ℕ → List ℕ
value_text_after known [] = []
value_text_after known (byte ∷ bytes) =
    let text = if known == 0 then utf8_valid_len (byte ∷ bytes) else known in
    if text == 0 then escape byte ++ value_text_after 0 bytes
    else text_byte byte ++ value_text_after (text - 1) bytes

unfoldable pub value_text : List ℕ → List ℕ
value_text value = value_text_after 0 value

abbrev pub end_text : Option (List ℕ) → List ℕ
end_text None = []
end_text (Some piece) = value_text piece

-- assertionvalue ASTERISK
abbrev pub middle_text : List ℕ → List ℕ
middle_text piece = value_text piece ++ (42 ∷ [])

-- ---- filters

-- LPAREN filtercomp RPAREN
abbrev pub enclosed : List ℕ → List ℕ
enclosed inner = 40 ∷ (inner ++ (41 ∷ []))

-- attr filtertype assertionvalue
abbrev pub item_text : List ℕ → List ℕ → List ℕ → List ℕ
item_text name sign value = enclosed (name ++ (sign ++ value_text value))

-- attr EQUALS [initial] any [final]
abbrev pub substrings_text : List ℕ → Option (List ℕ) → List (List ℕ) → Option (List ℕ) → List ℕ
substrings_text name initial middle last =
    enclosed
    (name ++ (61 ∷ (end_text initial ++ (42 ∷ (flat_map middle_text middle ++ end_text last)))))

abbrev pub presence_text : List ℕ → List ℕ
presence_text name = enclosed (name ++ codes "=*")

abbrev mutual
  pub text_of : FilterTree → List ℕ
  text_of (all_of ts) = enclosed (38 ∷ texts_of ts)
  text_of (any_of ts) = enclosed (124 ∷ texts_of ts)
  text_of (negated t) = enclosed (33 ∷ text_of t)
  text_of (equal name value) = item_text name (61 ∷ []) value
  text_of (substrings name initial middle last) = substrings_text name initial middle last
  text_of (at_least name value) = item_text name (codes ">=") value
  text_of (at_most name value) = item_text name (codes "<=") value
  text_of (present name) = presence_text name
  text_of (approx name value) = item_text name (codes "~=") value
  text_of (extensible body) = []

  pub texts_of : Trees → List ℕ
  texts_of no_trees = []
  texts_of (more_trees t ts) = text_of t ++ texts_of ts
