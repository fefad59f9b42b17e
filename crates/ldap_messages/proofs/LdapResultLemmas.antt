-- The result of an operation: its reading is exact, and its canonical spelling is a spelling.
use Rattle.std.proofs.Common.{◌≢◌, ℕ, ◌%◌, List, ◌++◌, Option, Some, None, refl, arith, FitsSigned}
use Rattle.std.specs.Prelude.{IfSome}
use Rattle.std.specs.Int.{w64}
use Rattle.ldap_ber.specs.Form.{OctetString, Integer, Optional, Both}
use Rattle.ldap_ber.specs.Reading.{both_at}
use Rattle.ldap_ber.specs.Canonical.{element, integer_octets}
use Rattle.ldap_ber.proofs.ExactLemmas.{Exact, both_exact, optional_exact, made_exact, sequence_exact}
use Rattle.ldap_ber.proofs.CanonicalLemmas.{Spelled, Anything, Always, Lacks, octets_spelled, optional_spelled, both_spelled, made_spelled, sequence_spelled, begins_with, none_next}
use Rattle.ldap_ber.proofs.IntegerLemmas.{integer_spelled}
use Rattle.ldap_parts.specs.Faults.{place_of}
use Rattle.ldap_parts.specs.Components.{octet_string_at, number_at}
use Rattle.ldap_parts.proofs.ComponentLemmas.{octet_string_exact, number_exact}
use Rattle.ldap_messages.specs.declared.ldap_result.LdapResult.{LdapResult}
use Rattle.ldap_messages.specs.Uris.{HaveOne, UrisForm, uris_at, uris_octets}
use Rattle.ldap_messages.specs.LdapResult.{HasReferral, Parts, ldap_result_parts, ldap_result_with, LdapResultForm, ResponseForm, referral_at, ldap_result_at, response_at, referral_octets, ldap_result_octets, response_octets}
use Rattle.ldap_messages.proofs.UriLemmas.{uris_exact, uris_spelled}

-- ---- read

-- the reading of a result is exact
pub ldap_result_exact : Exact LdapResultForm ldap_result_at
unfolding ldap_result_at
ldap_result_exact = made_exact ldap_result_parts ldap_result_with (Both (Integer 10) (Both (OctetString 4) (Both (OctetString 4) (Optional 163 (UrisForm 163)))))
    (both_at (number_at 10) (both_at (octet_string_at 4) (both_at (octet_string_at 4) referral_at))) (λ x. refl) (λ y. refl)
    (both_exact _ _ _ _ (number_exact 10) (both_exact _ _ _ _ (octet_string_exact 4) (both_exact _ _ _ _ (octet_string_exact 4) (optional_exact 163 (UrisForm 163) (uris_at 163) (uris_exact 163)))))

-- so is that of a response which is one
pub response_exact : (tag : ℕ) → Exact (ResponseForm tag) (response_at tag)
unfolding response_at
response_exact tag = sequence_exact place_of tag LdapResultForm ldap_result_at ldap_result_exact

-- ---- written

-- a referral that has a URI, where there is one
abbrev IsReferral : Option (List (List ℕ)) → Type 0
IsReferral referral = IfSome referral HaveOne

referral_spelled : Spelled (Optional 163 (UrisForm 163)) referral_octets IsReferral (Lacks 163)
referral_spelled = optional_spelled 163 (UrisForm 163) (uris_octets 163) HaveOne (uris_spelled 163 (omega arith)) (λ uris more. begins_with 163 _ more)

abbrev texts_octets : List ℕ × (List ℕ × Option (List (List ℕ))) → List ℕ
texts_octets parts = element 4 parts.0 ++ (element 4 parts.1.0 ++ referral_octets parts.1.1)

abbrev parts_octets : Parts → List ℕ
parts_octets parts = element 10 (integer_octets parts.0) ++ texts_octets parts.1

texts_spelled : Spelled (Both (OctetString 4) (Both (OctetString 4) (Optional 163 (UrisForm 163)))) texts_octets (λ p. Unit {0} × (Unit {0} × IsReferral p.1.1)) (Lacks 163)
texts_spelled = both_spelled (OctetString 4) (Both (OctetString 4) (Optional 163 (UrisForm 163))) (element 4) (λ p. element 4 p.0 ++ referral_octets p.1) (Always {X = List ℕ}) (λ p. Unit {0} × IsReferral p.1) Anything (Lacks 163)
    (octets_spelled 4 (omega arith))
    (both_spelled (OctetString 4) (Optional 163 (UrisForm 163)) (element 4) referral_octets (Always {X = List ℕ}) IsReferral Anything (Lacks 163) (octets_spelled 4 (omega arith)) referral_spelled (λ y rest sound after. tt))
    (λ y rest sound after. tt)

-- the code is a number of 64 bits
abbrev pub HasCode : LdapResult → Type 0
HasCode outcome = FitsSigned w64 outcome.code

abbrev pub IsLdapResult : LdapResult → Type 0
IsLdapResult outcome = HasCode outcome × HasReferral outcome

-- the canonical octets of a result spell it where no referral follows
pub ldap_result_spelled : Spelled LdapResultForm ldap_result_octets IsLdapResult (Lacks 163)
ldap_result_spelled = record {
  spells = λ outcome rest small sound after.
      (made_spelled ldap_result_parts (Both (Integer 10) (Both (OctetString 4) (Both (OctetString 4) (Optional 163 (UrisForm 163))))) parts_octets (λ p. FitsSigned w64 p.0 × (Unit {0} × (Unit {0} × IsReferral p.1.1.1))) (Lacks 163)
      (both_spelled (Integer 10) (Both (OctetString 4) (Both (OctetString 4) (Optional 163 (UrisForm 163)))) (λ code. element 10 (integer_octets code)) texts_octets (FitsSigned w64) (λ p. Unit {0} × (Unit {0} × IsReferral p.1.1)) Anything (Lacks 163)
      (integer_spelled 10 (omega arith)) texts_spelled (λ y rest sound after. tt))).spells outcome rest small (sound.0, (tt, (tt, sound.1))) after;
}

-- so do those of a response which is one
pub response_spelled : (tag : ℕ) → tag % 32 ≢ 31 → Spelled (ResponseForm tag) (response_octets tag) IsLdapResult Anything
response_spelled tag low = sequence_spelled tag LdapResultForm ldap_result_octets IsLdapResult (Lacks 163) low ldap_result_spelled (none_next 163)

-- ---- of the grammar

referral_is : (bytes : List ℕ) (referral : Option (List (List ℕ))) (rest : List ℕ) → Optional 163 (UrisForm 163) bytes referral rest → IsReferral referral
referral_is bytes None rest h = tt
referral_is bytes (Some uris) rest h = h.1.2.1

-- a referral of a result has a URI
pub ldap_result_is : (bytes : List ℕ) (outcome : LdapResult) (rest : List ℕ) → LdapResultForm bytes outcome rest → HasReferral outcome
ldap_result_is bytes outcome rest h = referral_is _ outcome.referral rest h.2.2.2

-- so has one of a response
pub response_is : (tag : ℕ) (bytes : List ℕ) (outcome : LdapResult) (rest : List ℕ) → ResponseForm tag bytes outcome rest → HasReferral outcome
response_is tag bytes outcome rest h = ldap_result_is h.0 outcome _ h.3
