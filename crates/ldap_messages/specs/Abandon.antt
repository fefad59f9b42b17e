-- Abandon (RFC 4511, section 4.11).
use Rattle.std.specs.Prelude.{ℕ, List, ℤ}
use Rattle.ldap_ber.specs.Form.{Form, Integer}
use Rattle.ldap_ber.specs.Reading.{Reading}
use Rattle.ldap_ber.specs.Canonical.{element, integer_octets}
use Rattle.ldap_parts.specs.Components.{number_at}

abbrev pub AbandonForm : Form ℤ
AbandonForm = Integer 80

unfoldable pub abandon_at : Reading ℕ ℤ
abandon_at stop bytes = number_at 80 stop bytes

abbrev pub abandon_octets : ℤ → List ℕ
abandon_octets id = element 80 (integer_octets id)
