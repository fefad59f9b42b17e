-- Modify DN (RFC 4511, section 4.9).
use Rattle.std.specs.Prelude.{ℕ, List, ◌++◌, Bool, Option}
use Rattle.ldap_ber.specs.Form.{Form, OctetString, Boolean, Both, Sequence}
use Rattle.ldap_ber.specs.Reading.{Reading, both_at, sequence_at}
use Rattle.ldap_ber.specs.Canonical.{element, boolean_octets}
use Rattle.ldap_parts.specs.Faults.{place_of}
use Rattle.ldap_parts.specs.Components.{OptionForm, octet_string_at, boolean_value_at, option_at, string_octets}

-- the name, its new first part, whether the values of the old one go, and the new superior
abbrev pub Rename : Type 0
Rename = List ℕ × (List ℕ × (Bool × Option (List ℕ)))

abbrev pub RenameForm : Form Rename
RenameForm =
    Sequence 108 (Both (OctetString 4) (Both (OctetString 4) (Both (Boolean 1) (OptionForm 128))))

unfoldable pub rename_at : Reading ℕ Rename
rename_at stop bytes =
    sequence_at place_of 108
    (both_at (octet_string_at 4)
    (both_at (octet_string_at 4) (both_at boolean_value_at (option_at 128)))) stop bytes

abbrev pub rename_octets : Rename → List ℕ
rename_octets parts =
    element 108
    (element 4 parts.0
    ++ (element 4 parts.1.0
    ++ (element 1 (boolean_octets parts.1.1.0) ++ string_octets 128 parts.1.1.1)))
