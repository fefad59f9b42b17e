-- Delete (RFC 4511, section 4.8).
use Rattle.std.specs.Prelude.{ℕ, List}
use Rattle.ldap_ber.specs.Form.{Form, OctetString}
use Rattle.ldap_ber.specs.Reading.{Reading}
use Rattle.ldap_ber.specs.Canonical.{element}
use Rattle.ldap_parts.specs.Components.{octet_string_at}

abbrev pub DeleteForm : Form (List ℕ)
DeleteForm = OctetString 74

unfoldable pub delete_at : Reading ℕ (List ℕ)
delete_at stop bytes = octet_string_at 74 stop bytes

abbrev pub delete_octets : List ℕ → List ℕ
delete_octets name = element 74 name
