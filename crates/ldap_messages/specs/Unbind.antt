-- Unbind (RFC 4511, section 4.3).
use Rattle.std.specs.Prelude.{◌≡◌, ℕ, List, [], length, ◌==◌, if◌then◌else◌, Result, Ok, Err}
use Rattle.ldap_ber.specs.Form.{Form, OctetString, Meaning}
use Rattle.ldap_ber.specs.Reading.{Reading, meaning_at}
use Rattle.ldap_ber.specs.Canonical.{element}
use Rattle.ldap_parts.specs.Components.{octet_string_at}

abbrev pub IsNull : List ℕ → Unit {0} → Type 0
IsNull body nothing = body ≡ []

-- NULL (X.690, 8.8)
abbrev pub UnbindForm : Form (Unit {0})
UnbindForm = Meaning IsNull (OctetString 66)

abbrev pub null_of : ℕ → List ℕ → Result (Unit {0}) ℕ
null_of place body = if length body == 0 then Ok tt else Err place

unfoldable pub unbind_at : Reading ℕ (Unit {0})
unbind_at stop bytes = meaning_at null_of (octet_string_at 66) stop bytes

abbrev pub unbind_octets : List ℕ
unbind_octets = element 66 []
