-- Components of several messages: their forms, how they are read, and their canonical spelling.
use Rattle.std.specs.Prelude.{◌≡◌, ℕ, ◌≤◌, ◌&&◌, nat_le, if◌then◌else◌, List, ◌∷◌, Bool, false, Option, Result, Ok, Err, ℤ, pos, negsuc}
use Rattle.std.specs.List.{flat_map}
use Rattle.ldap_ber.specs.Form.{Form, OctetString, Integer, Boolean, Optional, Default, Meaning, ListOf}
use Rattle.ldap_ber.specs.Reader.{◌>>=◌}
use Rattle.ldap_ber.specs.Reading.{Reading, reworded, octets_at, integer_at, boolean_at, optional_at, default_at, meaning_at, list_at, many_at}
use Rattle.ldap_ber.specs.Canonical.{element, integer_octets, option_octets}
use Rattle.ldap_parts.specs.Faults.{place_of}

-- ---- how they are spelled

abbrev pub IsInRange : ℕ → ℕ → ℤ → ℕ → Type 0
IsInRange least most number value = (number ≡ pos value) × (least ≤ value) × (value ≤ most)

-- an INTEGER or ENUMERATED with bounds
abbrev pub RangeForm : ℕ → ℕ → ℕ → Form ℕ
RangeForm least most tag = Meaning (IsInRange least most) (Integer tag)

-- BOOLEAN DEFAULT FALSE
abbrev pub FlagForm : Form Bool
FlagForm = Default 1 false (Boolean 1)

-- an OCTET STRING OPTIONAL
abbrev pub OptionForm : ℕ → Form (Option (List ℕ))
OptionForm tag = Optional tag (OctetString tag)

-- a SEQUENCE OF or SET OF OCTET STRING
abbrev pub StringsForm : ℕ → Form (List (List ℕ))
StringsForm tag = ListOf tag (OctetString 4)

-- ---- how they are read

abbrev pub octet_string_at : ℕ → Reading ℕ (List ℕ)
octet_string_at tag stop bytes = reworded place_of (octets_at tag stop bytes)

abbrev pub number_at : ℕ → Reading ℕ ℤ
number_at tag stop bytes = reworded place_of (integer_at tag stop bytes)

abbrev pub boolean_value_at : Reading ℕ Bool
boolean_value_at stop bytes = reworded place_of (boolean_at 1 stop bytes)

abbrev pub flag_at : Reading ℕ Bool
flag_at stop bytes = reworded place_of (default_at 1 false (boolean_at 1) stop bytes)

-- a number out of its bounds is refused at its element
abbrev pub within : ℕ → ℕ → ℕ → ℤ → Result ℕ ℕ
within least most place (pos value) =
    if nat_le least value && nat_le value most then Ok value else Err place
within least most place (negsuc value) = Err place

abbrev pub range_at : ℕ → ℕ → ℕ → Reading ℕ ℕ
range_at least most tag = meaning_at (within least most) (number_at tag)

abbrev pub option_at : ℕ → Reading ℕ (Option (List ℕ))
option_at tag = optional_at tag (octet_string_at tag)

abbrev pub strings_at : ℕ → Reading ℕ (List (List ℕ))
strings_at tag = list_at place_of tag (octet_string_at 4)

-- a first string and any number of strings after it
abbrev pub strings_from_first : List ℕ → ℕ → List ℕ → Result (List (List ℕ)) ℕ
strings_from_first first stop bytes =
    many_at (octet_string_at 4) stop bytes >>= λ strings. Ok (first ∷ strings)

-- ---- how they are written

abbrev pub number_octets : ℕ → ℕ → List ℕ
number_octets tag value = element tag (integer_octets (pos value))

abbrev pub string_octets : ℕ → Option (List ℕ) → List ℕ
string_octets tag = option_octets (element tag)

abbrev pub strings_octets : ℕ → List (List ℕ) → List ℕ
strings_octets tag strings = element tag (flat_map (element 4) strings)
