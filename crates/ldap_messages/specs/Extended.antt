-- Extended requests and responses (RFC 4511, section 4.12).
use Rattle.std.specs.Prelude.{ℕ, List, ◌++◌, Option}
use Rattle.ldap_ber.specs.Form.{Form, OctetString, Both, Sequence}
use Rattle.ldap_ber.specs.Reading.{Reading, both_at, sequence_at}
use Rattle.ldap_ber.specs.Canonical.{element}
use Rattle.ldap_parts.specs.Faults.{place_of}
use Rattle.ldap_parts.specs.Components.{OptionForm, octet_string_at, option_at, string_octets}
use Rattle.ldap_messages.specs.declared.ldap_result.LdapResult.{LdapResult}
use Rattle.ldap_messages.specs.LdapResult.{LdapResultForm, ldap_result_at, ldap_result_octets}

abbrev pub ExtendedForm : Form (List ℕ × Option (List ℕ))
ExtendedForm = Sequence 119 (Both (OctetString 128) (OptionForm 129))

abbrev pub ExtendedResponseForm : Form (LdapResult × (Option (List ℕ) × Option (List ℕ)))
ExtendedResponseForm = Sequence 120 (Both LdapResultForm (Both (OptionForm 138) (OptionForm 139)))

unfoldable pub extended_at : Reading ℕ (List ℕ × Option (List ℕ))
extended_at stop bytes =
    sequence_at place_of 119 (both_at (octet_string_at 128) (option_at 129)) stop bytes

unfoldable pub extended_response_at : Reading ℕ (LdapResult × (Option (List ℕ) × Option (List ℕ)))
extended_response_at stop bytes =
    sequence_at place_of 120
    (both_at ldap_result_at (both_at (option_at 138) (option_at 139))) stop bytes

abbrev pub extended_octets : List ℕ × Option (List ℕ) → List ℕ
extended_octets parts = element 119 (element 128 parts.0 ++ string_octets 129 parts.1)

abbrev pub extended_response_octets : LdapResult × (Option (List ℕ) × Option (List ℕ)) → List ℕ
extended_response_octets parts =
    element 120
    (ldap_result_octets parts.0 ++ (string_octets 138 parts.1.0 ++ string_octets 139 parts.1.1))
