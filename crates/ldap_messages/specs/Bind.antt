-- Bind (RFC 4511, section 4.2).
use Rattle.std.specs.Prelude.{ℕ, List, ◌++◌, Option, if◌then◌else◌}
use Rattle.ldap_ber.specs.Reader.{has_tag}
use Rattle.ldap_ber.specs.Form.{Form, OctetString, Both, Sequence}
use Rattle.ldap_ber.specs.Reading.{Reading, both_at, made_at, sequence_at}
use Rattle.ldap_ber.specs.Canonical.{element}
use Rattle.ldap_parts.specs.Faults.{place_of}
use Rattle.ldap_parts.specs.Components.{RangeForm, OptionForm, octet_string_at, range_at, option_at, number_octets, string_octets}
use Rattle.ldap_messages.specs.declared.bind.Authentication.{Authentication}
use Rattle.ldap_messages.specs.declared.bind.Authentication.TheVariants.{Simple, Sasl}
use Rattle.ldap_messages.specs.declared.ldap_result.LdapResult.{LdapResult}
use Rattle.ldap_messages.specs.LdapResult.{LdapResultForm, ldap_result_at, ldap_result_octets}

-- AuthenticationChoice
abbrev pub AuthenticationForm : Form Authentication
AuthenticationForm bytes (Simple password) rest = OctetString 128 bytes password rest
AuthenticationForm bytes (Sasl body) rest = OctetString 163 bytes body rest

abbrev pub BindForm : Form (ℕ × (List ℕ × Authentication))
BindForm = Sequence 96 (Both (RangeForm 1 127 2) (Both (OctetString 4) AuthenticationForm))

abbrev pub BindResponseForm : Form (LdapResult × Option (List ℕ))
BindResponseForm = Sequence 97 (Both LdapResultForm (OptionForm 135))

unfoldable pub authentication_at : Reading ℕ Authentication
authentication_at stop bytes =
    if has_tag 128 bytes then made_at Simple (octet_string_at 128) stop bytes else
    made_at Sasl (octet_string_at 163) stop bytes

unfoldable pub bind_at : Reading ℕ (ℕ × (List ℕ × Authentication))
bind_at stop bytes =
    sequence_at place_of 96
    (both_at (range_at 1 127 2) (both_at (octet_string_at 4) authentication_at)) stop bytes

unfoldable pub bind_response_at : Reading ℕ (LdapResult × Option (List ℕ))
bind_response_at stop bytes =
    sequence_at place_of 97 (both_at ldap_result_at (option_at 135)) stop bytes

abbrev pub authentication_octets : Authentication → List ℕ
authentication_octets (Simple password) = element 128 password
authentication_octets (Sasl body) = element 163 body

abbrev pub bind_octets : ℕ × (List ℕ × Authentication) → List ℕ
bind_octets parts =
    element 96 (number_octets 2 parts.0 ++ (element 4 parts.1.0 ++ authentication_octets parts.1.1))

abbrev pub bind_response_octets : LdapResult × Option (List ℕ) → List ℕ
bind_response_octets parts = element 97 (ldap_result_octets parts.0 ++ string_octets 135 parts.1)
