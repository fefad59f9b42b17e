-- Compare (RFC 4511, section 4.10).
use Rattle.std.specs.Prelude.{ℕ, List, ◌++◌}
use Rattle.ldap_ber.specs.Form.{Form, OctetString, Both, Sequence}
use Rattle.ldap_ber.specs.Reading.{Reading, both_at, sequence_at}
use Rattle.ldap_ber.specs.Canonical.{element}
use Rattle.ldap_parts.specs.Faults.{place_of}
use Rattle.ldap_parts.specs.Components.{octet_string_at}
use Rattle.ldap_parts.specs.Filters.{AssertionForm, assertion_at, assertion_octets}

abbrev pub CompareForm : Form (List ℕ × (List ℕ × List ℕ))
CompareForm = Sequence 110 (Both (OctetString 4) (AssertionForm 48))

unfoldable pub compare_at : Reading ℕ (List ℕ × (List ℕ × List ℕ))
compare_at stop bytes =
    sequence_at place_of 110 (both_at (octet_string_at 4) (assertion_at 48)) stop bytes

abbrev pub compare_octets : List ℕ × (List ℕ × List ℕ) → List ℕ
compare_octets parts = element 110 (element 4 parts.0 ++ assertion_octets 48 parts.1)
