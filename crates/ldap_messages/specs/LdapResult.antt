-- LDAPResult (RFC 4511, section 4.1.9), and the responses that hold nothing else.
use Rattle.std.specs.Prelude.{ℕ, List, ◌++◌, Option, ℤ, IfSome}
use Rattle.ldap_ber.specs.Form.{Form, OctetString, Integer, Optional, Both, MadeOf, Sequence}
use Rattle.ldap_ber.specs.Reading.{Reading, optional_at, both_at, made_at, sequence_at}
use Rattle.ldap_ber.specs.Canonical.{element, integer_octets, option_octets}
use Rattle.ldap_parts.specs.Faults.{place_of}
use Rattle.ldap_parts.specs.Components.{octet_string_at, number_at}
use Rattle.ldap_messages.specs.declared.ldap_result.LdapResult.{LdapResult}
use Rattle.ldap_messages.specs.Uris.{HaveOne, UrisForm, uris_at, uris_octets}

abbrev pub Parts : Type 0
Parts = ℤ × (List ℕ × (List ℕ × Option (List (List ℕ))))

abbrev pub ldap_result_parts : LdapResult → Parts
ldap_result_parts outcome =
    (outcome.code, (outcome.matched_dn, (outcome.diagnostic_message, outcome.referral)))

abbrev pub ldap_result_with : Parts → LdapResult
ldap_result_with parts =
    record {
      code = parts.0;
      matched_dn = parts.1.0;
      diagnostic_message = parts.1.1.0;
      referral = parts.1.1.1;
    }

-- the components of an LDAPResult
abbrev pub LdapResultForm : Form LdapResult
LdapResultForm =
    MadeOf ldap_result_parts
    (Both (Integer 10)
    (Both (OctetString 4) (Both (OctetString 4) (Optional 163 (UrisForm 163)))))

-- a referral has a URI
abbrev pub HasReferral : LdapResult → Type 0
HasReferral outcome = IfSome outcome.referral HaveOne

abbrev pub ResponseForm : ℕ → Form LdapResult
ResponseForm tag = Sequence tag LdapResultForm

abbrev pub referral_at : Reading ℕ (Option (List (List ℕ)))
referral_at = optional_at 163 (uris_at 163)

unfoldable pub ldap_result_at : Reading ℕ LdapResult
ldap_result_at stop bytes =
    made_at ldap_result_with
    (both_at (number_at 10) (both_at (octet_string_at 4) (both_at (octet_string_at 4) referral_at)))
    stop bytes

unfoldable pub response_at : ℕ → Reading ℕ LdapResult
response_at tag stop bytes = sequence_at place_of tag ldap_result_at stop bytes

abbrev pub referral_octets : Option (List (List ℕ)) → List ℕ
referral_octets = option_octets (uris_octets 163)

abbrev pub ldap_result_octets : LdapResult → List ℕ
ldap_result_octets outcome =
    element 10 (integer_octets outcome.code)
    ++ (element 4 outcome.matched_dn
    ++ (element 4 outcome.diagnostic_message ++ referral_octets outcome.referral))

abbrev pub response_octets : ℕ → LdapResult → List ℕ
response_octets tag outcome = element tag (ldap_result_octets outcome)
