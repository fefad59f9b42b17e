-- Intermediate responses (RFC 4511, section 4.13).
use Rattle.std.specs.Prelude.{ℕ, List, ◌++◌, Option}
use Rattle.ldap_ber.specs.Form.{Form, Both, Sequence}
use Rattle.ldap_ber.specs.Reading.{Reading, both_at, sequence_at}
use Rattle.ldap_ber.specs.Canonical.{element}
use Rattle.ldap_parts.specs.Faults.{place_of}
use Rattle.ldap_parts.specs.Components.{OptionForm, option_at, string_octets}

abbrev pub IntermediateForm : Form (Option (List ℕ) × Option (List ℕ))
IntermediateForm = Sequence 121 (Both (OptionForm 128) (OptionForm 129))

unfoldable pub intermediate_at : Reading ℕ (Option (List ℕ) × Option (List ℕ))
intermediate_at stop bytes =
    sequence_at place_of 121 (both_at (option_at 128) (option_at 129)) stop bytes

abbrev pub intermediate_octets : Option (List ℕ) × Option (List ℕ) → List ℕ
intermediate_octets parts = element 121 (string_octets 128 parts.0 ++ string_octets 129 parts.1)
