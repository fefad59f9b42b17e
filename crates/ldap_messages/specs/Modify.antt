-- Modify (RFC 4511, section 4.6).
use Rattle.std.specs.Prelude.{◌≡◌, ℕ, List, ◌++◌, Result, Ok, Err, ℤ, pos, if◌then◌else◌}
use Rattle.std.specs.Ordering.{int_eq}
use Rattle.std.specs.List.{flat_map}
use Rattle.ldap_ber.specs.Form.{Form, OctetString, Integer, Both, Meaning, MadeOf, Sequence, ListOf}
use Rattle.ldap_ber.specs.Reading.{Reading, both_at, made_at, meaning_at, sequence_at, list_at}
use Rattle.ldap_ber.specs.Canonical.{element, integer_octets}
use Rattle.schema_rules.specs.declared.raw.RawAttribute.{RawAttribute}
use Rattle.schema_rules.specs.declared.raw.RawEdit.{RawEdit}
use Rattle.schema_rules.specs.declared.raw.How.{How}
use Rattle.schema_rules.specs.declared.raw.How.TheVariants.{Add, Delete, Replace}
use Rattle.ldap_parts.specs.Faults.{place_of}
use Rattle.ldap_parts.specs.Components.{octet_string_at, number_at}
use Rattle.ldap_parts.specs.Attributes.{AttributeForm, attribute_at, attribute_octets}

abbrev pub how_number : How → ℤ
how_number Add = pos 0
how_number Delete = pos 1
how_number Replace = pos 2

abbrev pub IsHow : ℤ → How → Type 0
IsHow number how = number ≡ how_number how

-- operation ENUMERATED
abbrev pub HowForm : Form How
HowForm = Meaning IsHow (Integer 10)

abbrev pub edit_parts : RawEdit → How × RawAttribute
edit_parts edit = (edit.how, edit.attribute)

abbrev pub edit_with : How × RawAttribute → RawEdit
edit_with parts = record { how = parts.0; attribute = parts.1 }

abbrev pub EditForm : Form RawEdit
EditForm = MadeOf edit_parts (Sequence 48 (Both HowForm AttributeForm))

abbrev pub ModifyForm : Form (List ℕ × List RawEdit)
ModifyForm = Sequence 102 (Both (OctetString 4) (ListOf 48 EditForm))

abbrev pub how_of : ℕ → ℤ → Result How ℕ
how_of place number =
    if int_eq number (pos 0) then Ok Add else
    if int_eq number (pos 1) then Ok Delete else
    if int_eq number (pos 2) then Ok Replace else
    Err place

abbrev pub how_at : Reading ℕ How
how_at = meaning_at how_of (number_at 10)

unfoldable pub edit_at : Reading ℕ RawEdit
edit_at stop bytes =
    made_at edit_with (sequence_at place_of 48 (both_at how_at attribute_at)) stop bytes

abbrev pub edits_at : Reading ℕ (List RawEdit)
edits_at = list_at place_of 48 edit_at

unfoldable pub modify_at : Reading ℕ (List ℕ × List RawEdit)
modify_at stop bytes = sequence_at place_of 102 (both_at (octet_string_at 4) edits_at) stop bytes

unfoldable pub edit_octets : RawEdit → List ℕ
edit_octets edit =
    element 48
    (element 10 (integer_octets (how_number edit.how)) ++ attribute_octets edit.attribute)

abbrev pub edits_octets : List RawEdit → List ℕ
edits_octets edits = element 48 (flat_map edit_octets edits)

abbrev pub modify_octets : List ℕ × List RawEdit → List ℕ
modify_octets parts = element 102 (element 4 parts.0 ++ edits_octets parts.1)
