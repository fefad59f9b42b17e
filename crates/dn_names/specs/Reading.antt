-- Names read from text (RFC 4514, section 3).
use Rattle.std.specs.Prelude.{◌≡◌, ℕ, zero, suc, ◌+◌, ◌-◌, ◌*◌, Bool, true, false, not, ◌&&◌, ◌||◌, ◌==◌, nat_lt, nat_le, nat_eq, if◌then◌else◌, List, [], ◌∷◌, length, take, drop, codes, Option, None, Some, is_some, option_map, option_and_then, Result, Ok, Err, sum_by, ⊤, fold}
use Rattle.std.specs.Result.{result_ok}
use Rattle.std.specs.List.{list_any, list_all, slice_split, before_first, after_first, prefix_len, suffix_len}
use Rattle.std.specs.Char.{is_ascii_alphabetic, is_ascii_alphanumeric}
use Rattle.hex.specs.Hex.{hex_digit_value, decode_of}
use Rattle.text_keys.specs.Integer.{is_number}
use Rattle.schema_rules.specs.Schema.{type_named, is_operational}
use Rattle.schema_rules.specs.Keys.{key_of}
use Rattle.dn_names.specs.Names.{TypeAndValue}
use Rattle.dn_names.specs.Keys.{has_double}
use Rattle.dn_names.specs.Writing.{rdn_text}
use Rattle.dn_names.specs.Sound.{most_rdns, most_bytes}
use Rattle.dn_names.specs.declared.fault.NameFault.{NameFault}
use Rattle.dn_names.specs.declared.fault.NameFault.TheVariants.{BadName, UnknownType, TooLong, NoMemory}
use Rattle.dn_names.specs.declared.name_chars.NameChar.{NameChar}
use Rattle.dn_names.specs.declared.name_chars.NameChar.TheVariants.{Plain, Escaped, Hexadecimal, Stray}

-- ---- faults

-- the second step where the first gave a value
abbrev pub and_then :
    {A B : Type 0} → Result A NameFault → (A → Result B NameFault) → Result B NameFault
and_then (Ok a) next = next a
and_then (Err fault) next = Err fault

-- the item before what the rest is read as
abbrev pub with_first : {A : Type 0} → A → Result (List A) NameFault → Result (List A) NameFault
with_first item (Ok items) = Ok (item ∷ items)
with_first item (Err fault) = Err fault

-- the value, or the fault of a bad name at the place
abbrev pub or_bad : {A : Type 0} → ℕ → Option A → Result A NameFault
or_bad place (Some a) = Ok a
or_bad place None = Err (BadName place)

-- the fault is the one that was found; out of memory reports nothing
abbrev pub IsNameFault : {A : Type 0} → Result A NameFault → NameFault → Type 0
IsNameFault {A} read (BadName place) = read ≡ Err (BadName place)
IsNameFault {A} read (UnknownType place) = read ≡ Err (UnknownType place)
IsNameFault {A} read (TooLong place) = read ≡ Err (TooLong place)
IsNameFault {A} read NoMemory = ⊤

-- ---- characters: a byte that stands for itself, or an escape

-- pair = ESC ( ESC / special / hexpair ), where special = escaped / SPACE / SHARP / EQUALS
abbrev pub is_escapable : ℕ → Bool
is_escapable byte = list_any (nat_eq byte) (codes " \"#+,;<=>\\")

abbrev pub hex_pair : Option ℕ → Option ℕ → NameChar
hex_pair (Some high) (Some low) = Hexadecimal (high * 16 + low)
hex_pair (Some high) None = Stray
hex_pair None low = Stray

-- the character of a backslash and these bytes
abbrev pub escape : List ℕ → NameChar
escape [] = Stray
escape (byte ∷ []) = if is_escapable byte then Escaped byte else Stray
escape (byte ∷ next ∷ rest) =
    if is_escapable byte then Escaped byte
    else hex_pair (hex_digit_value byte) (hex_digit_value next)

-- the character that begins with this byte, where these follow
abbrev pub char_of : ℕ → List ℕ → NameChar
char_of byte rest = if byte == 92 then escape rest else Plain byte

-- how many bytes a character has
abbrev pub char_width : NameChar → ℕ
char_width (Plain byte) = 1
char_width (Escaped byte) = 2
char_width (Hexadecimal byte) = 3
char_width Stray = 1

-- the characters of a text, of which the first bytes belong to the character before
abbrev pub chars_after : ℕ → List ℕ → List NameChar
chars_after skipped [] = []
chars_after zero (byte ∷ rest) =
    char_of byte rest ∷ chars_after (char_width (char_of byte rest) - 1) rest
chars_after (suc skipped) (byte ∷ rest) = chars_after skipped rest

unfoldable pub chars_of : List ℕ → List NameChar
chars_of text = chars_after 0 text

-- how many bytes the characters have
abbrev pub chars_width : List NameChar → ℕ
chars_width chars = sum_by char_width chars

-- an unescaped byte
abbrev pub is_plain : ℕ → NameChar → Bool
is_plain byte (Plain b) = b == byte
is_plain byte (Escaped b) = false
is_plain byte (Hexadecimal b) = false
is_plain byte Stray = false

abbrev pub without_leading_spaces : List NameChar → List NameChar
without_leading_spaces chars = drop (prefix_len (is_plain 32) chars) chars

abbrev pub without_trailing_spaces : List NameChar → List NameChar
without_trailing_spaces chars = take (length chars - suffix_len (is_plain 32) chars) chars

abbrev pub trimmed : List NameChar → List NameChar
trimmed chars = without_trailing_spaces (without_leading_spaces chars)

-- what each character gives, where each gives something
abbrev pub each_some : {A B : Type 0} → (A → Option B) → List A → Option (List B)
each_some give [] = Some []
each_some give (a ∷ as') =
    option_and_then (λ b. option_map (λ bs. b ∷ bs) (each_some give as')) (give a)

abbrev pub plain_byte : NameChar → Option ℕ
plain_byte (Plain byte) = Some byte
plain_byte (Escaped byte) = None
plain_byte (Hexadecimal byte) = None
plain_byte Stray = None

-- ---- types

-- descr = keystring = ALPHA *( ALPHA / DIGIT / HYPHEN )  (RFC 4512, section 1.4)
abbrev pub is_keychar : ℕ → Bool
is_keychar byte = is_ascii_alphanumeric byte || (byte == 45)

abbrev pub is_descriptor : List ℕ → Bool
is_descriptor [] = false
is_descriptor (byte ∷ rest) = is_ascii_alphabetic byte && list_all is_keychar rest

-- numericoid = number 1*( DOT number )  (RFC 4512, section 1.4)
abbrev pub is_numeric_oid : List ℕ → Bool
is_numeric_oid name =
    list_any (nat_eq 46) name && list_all is_number (slice_split (λ byte. byte == 46) name)

-- a name that no type of the schema has
abbrev pub unknown_type : ℕ → List ℕ → Result ℕ NameFault
unknown_type place name =
    if is_descriptor name || is_numeric_oid name then Err (UnknownType place)
    else Err (BadName place)

-- an operational type is as unknown as one that is not in the schema
abbrev pub known_type : ℕ → List ℕ → Option ℕ → Result ℕ NameFault
known_type place name (Some kind) = if is_operational kind then Err (UnknownType place) else Ok kind
known_type place name None = unknown_type place name

-- attributeType = descr / numericoid
abbrev pub type_of : ℕ → List NameChar → Result ℕ NameFault
type_of place chars =
    and_then (or_bad place (each_some plain_byte (trimmed chars)))
    (λ name. known_type place name (type_named name))

-- ---- values

-- what a string may not have without a backslash
abbrev pub is_refused : ℕ → Bool
is_refused byte = (byte == 0) || list_any (nat_eq byte) (codes "\"+,;<>")

-- string = [ ( leadchar / pair ) [ *( stringchar / pair ) ( trailchar / pair ) ] ]
abbrev pub string_byte : NameChar → Option ℕ
string_byte (Plain byte) = if is_refused byte then None else Some byte
string_byte (Escaped byte) = Some byte
string_byte (Hexadecimal byte) = Some byte
string_byte Stray = None

-- the tags of OCTET STRING, UTF8String, PrintableString and IA5String
abbrev pub is_string_tag : ℕ → Bool
is_string_tag tag = list_any (nat_eq tag) (4 ∷ 12 ∷ 19 ∷ 22 ∷ [])

-- what the octets of a length say (X.690, section 8.1.3.5)
abbrev pub length_of : List ℕ → ℕ
length_of octets = fold (λ sum octet. sum * 256 + octet) 0 octets

-- the body where it has this length
abbrev pub body_of : ℕ → List ℕ → Option (List ℕ)
body_of count body = if length body == count then Some body else None

-- a length in the definite form, of one octet or with one to four more, and its body
-- (X.690, section 8.1.3)
abbrev pub sized_body : ℕ → List ℕ → Option (List ℕ)
sized_body count rest =
    if nat_lt count 128 then body_of count rest
    else if nat_lt 128 count && (nat_le count 132 && nat_le (count - 128) (length rest))
    then body_of (length_of (take (count - 128) rest)) (drop (count - 128) rest)
    else None

-- the body of one whole element with a tag of a string
abbrev pub string_body : List ℕ → Option (List ℕ)
string_body [] = None
string_body (tag ∷ []) = None
string_body (tag ∷ count ∷ rest) = if is_string_tag tag then sized_body count rest else None

-- hexstring = SHARP 1*hexpair, the octets of an element
abbrev pub hex_value : List NameChar → Option (List ℕ)
hex_value digits =
    option_and_then (λ text. option_and_then string_body (result_ok (decode_of text)))
    (each_some plain_byte digits)

-- attributeValue = string / hexstring
abbrev pub octets_of_chars : List NameChar → Option (List ℕ)
octets_of_chars [] = Some []
octets_of_chars (name_char ∷ chars) =
    if is_plain 35 name_char then hex_value chars else each_some string_byte (name_char ∷ chars)

-- a value that is of the type's syntax
abbrev pub value_of : ℕ → List NameChar → Option (List ℕ)
value_of kind chars =
    option_and_then (λ value. if is_some (key_of kind value) then Some value else None)
    (octets_of_chars chars)

-- ---- pairs, RDNs and names

-- the characters of the value, without the spaces before a separator
abbrev pub value_chars : Bool → List NameChar → List NameChar
value_chars ended chars =
    if ended then without_trailing_spaces (without_leading_spaces chars)
    else without_leading_spaces chars

abbrev pub pair_at : ℕ → Bool → List NameChar → Result TypeAndValue NameFault
pair_at place ended chars =
    and_then (type_of place (before_first (is_plain 61) chars)) (λ kind.
    and_then
    (or_bad place (value_of kind (value_chars ended (after_first (is_plain 61) chars)))) (λ value.
    Ok (record { kind = kind; value = value })))

-- attributeTypeAndValue = attributeType EQUALS attributeValue; a separator may follow
abbrev pub pair_of : ℕ → Bool → List NameChar → Result TypeAndValue NameFault
pair_of place ended chars =
    if list_any (is_plain 61) chars then pair_at place ended chars else Err (BadName place)

abbrev pub is_empty : {A : Type 0} → List A → Bool
is_empty [] = true
is_empty (a ∷ rest) = false

abbrev pub pairs_of : ℕ → Bool → List (List NameChar) → Result (List TypeAndValue) NameFault
pairs_of place ended [] = Ok []
pairs_of place ended (part ∷ parts) =
    and_then (pair_of place (ended || not (is_empty parts)) part)
    (λ pair. with_first pair (pairs_of place ended parts))

-- no type twice with one key, and few enough bytes in writing
abbrev pub checked_rdn : ℕ → List TypeAndValue → Result (List TypeAndValue) NameFault
checked_rdn place pairs =
    if has_double pairs then Err (BadName place)
    else if nat_lt most_bytes (length (rdn_text pairs)) then Err (TooLong place)
    else Ok pairs

-- relativeDistinguishedName = attributeTypeAndValue *( PLUS attributeTypeAndValue )
unfoldable pub rdn_of : ℕ → Bool → List NameChar → Result (List TypeAndValue) NameFault
rdn_of place ended chars =
    if nat_lt 0 (prefix_len (is_plain 32) chars) then Err (BadName place)
    else and_then (pairs_of place ended (slice_split (is_plain 43) chars)) (checked_rdn place)

-- what stands after the first comma, without leading spaces
abbrev pub after_comma : List NameChar → List NameChar
after_comma chars = without_leading_spaces (after_first (is_plain 44) chars)

-- the RDN up to the first comma, at the place where these characters begin in a text of n bytes
abbrev pub first_rdn : ℕ → List NameChar → Result (List TypeAndValue) NameFault
first_rdn bytes chars =
    rdn_of (bytes - chars_width chars) (list_any (is_plain 44) chars)
    (before_first (is_plain 44) chars)

-- distinguishedName = relativeDistinguishedName *( COMMA
-- relativeDistinguishedName ), at most n
unfoldable pub rdns_of : ℕ → ℕ → List NameChar → Result (List (List TypeAndValue)) NameFault
rdns_of zero bytes chars =
    and_then (first_rdn bytes chars) (λ rdn. Err (TooLong (bytes - chars_width chars)))
rdns_of (suc room) bytes chars =
    and_then (first_rdn bytes chars) (λ rdn.
    if list_any (is_plain 44) chars then with_first rdn (rdns_of room bytes (after_comma chars))
    else Ok (rdn ∷ []))

-- the name of a text, or the first refused RDN; the empty text is the empty name
unfoldable pub name_of_text : List ℕ → Result (List (List TypeAndValue)) NameFault
name_of_text text =
    if length text == 0 then Ok [] else rdns_of most_rdns (length text) (chars_of text)

-- the RDN of a text, which begins at its first byte
unfoldable pub rdn_of_text : List ℕ → Result (List TypeAndValue) NameFault
rdn_of_text text = rdn_of 0 false (chars_of text)

-- a name that was put together from names
abbrev pub limited : List (List TypeAndValue) → Result (List (List TypeAndValue)) NameFault
limited name = if nat_lt most_rdns (length name) then Err (TooLong 0) else Ok name
