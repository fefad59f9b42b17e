-- Attributes as they come in (RFC 4511, section 4.1.7).
use Rattle.std.specs.Prelude.{ℕ, List, ◌++◌}
use Rattle.std.specs.List.{flat_map}
use Rattle.ldap_ber.specs.Form.{Form, OctetString, Both, MadeOf, Sequence, ListOf}
use Rattle.ldap_ber.specs.Reading.{Reading, both_at, made_at, sequence_at, list_at}
use Rattle.ldap_ber.specs.Canonical.{element}
use Rattle.schema_rules.specs.declared.raw.RawAttribute.{RawAttribute}
use Rattle.ldap_parts.specs.Faults.{place_of}
use Rattle.ldap_parts.specs.Components.{StringsForm, octet_string_at, strings_at, strings_octets}

abbrev pub attribute_parts : RawAttribute → List ℕ × List (List ℕ)
attribute_parts attribute = (attribute.name, attribute.values)

abbrev pub attribute_with : List ℕ × List (List ℕ) → RawAttribute
attribute_with parts = record { name = parts.0; values = parts.1 }

-- PartialAttribute
abbrev pub AttributeForm : Form RawAttribute
AttributeForm = MadeOf attribute_parts (Sequence 48 (Both (OctetString 4) (StringsForm 49)))

-- PartialAttributeList, AttributeList
abbrev pub AttributesForm : Form (List RawAttribute)
AttributesForm = ListOf 48 AttributeForm

unfoldable pub attribute_at : Reading ℕ RawAttribute
attribute_at stop bytes =
    made_at attribute_with
    (sequence_at place_of 48 (both_at (octet_string_at 4) (strings_at 49))) stop bytes

abbrev pub attributes_at : Reading ℕ (List RawAttribute)
attributes_at = list_at place_of 48 attribute_at

unfoldable pub attribute_octets : RawAttribute → List ℕ
attribute_octets attribute =
    element 48 (element 4 attribute.name ++ strings_octets 49 attribute.values)

abbrev pub attributes_octets : List RawAttribute → List ℕ
attributes_octets attributes = element 48 (flat_map attribute_octets attributes)
