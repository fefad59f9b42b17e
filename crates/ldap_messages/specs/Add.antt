-- Add (RFC 4511, section 4.7).
use Rattle.std.specs.Prelude.{ℕ, List, ◌++◌}
use Rattle.ldap_ber.specs.Form.{Form, OctetString, Both, Sequence}
use Rattle.ldap_ber.specs.Reading.{Reading, both_at, sequence_at}
use Rattle.ldap_ber.specs.Canonical.{element}
use Rattle.schema_rules.specs.declared.raw.RawAttribute.{RawAttribute}
use Rattle.ldap_parts.specs.Faults.{place_of}
use Rattle.ldap_parts.specs.Components.{octet_string_at}
use Rattle.ldap_parts.specs.Attributes.{AttributesForm, attributes_at, attributes_octets}

abbrev pub AddForm : Form (List ℕ × List RawAttribute)
AddForm = Sequence 104 (Both (OctetString 4) AttributesForm)

unfoldable pub add_at : Reading ℕ (List ℕ × List RawAttribute)
add_at stop bytes = sequence_at place_of 104 (both_at (octet_string_at 4) attributes_at) stop bytes

abbrev pub add_octets : List ℕ × List RawAttribute → List ℕ
add_octets parts = element 104 (element 4 parts.0 ++ attributes_octets parts.1)
