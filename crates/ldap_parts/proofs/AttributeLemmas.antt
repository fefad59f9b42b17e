-- Attributes: their reading is exact, and their canonical spelling is a spelling.
use Rattle.std.proofs.Common.{◌≡◌, ℕ, ◌<◌, List, [], ◌∷◌, ◌++◌, length, Ok, Err, refl, arith}
use Rattle.ldap_ber.specs.Form.{OctetString, Both, Sequence}
use Rattle.ldap_ber.specs.Reading.{many_at, both_at, sequence_at}
use Rattle.ldap_ber.specs.Canonical.{element}
use Rattle.ldap_ber.proofs.ManyLemmas.{Advances, with_prefix, many_goes_on, many_fails, many_ended}
use Rattle.ldap_ber.proofs.SkipLemmas.{Begins-shorter}
use Rattle.ldap_ber.proofs.ExactLemmas.{Exact, Shortens, both_exact, sequence_exact, made_exact, list_exact, advances}
use Rattle.ldap_ber.proofs.CanonicalLemmas.{Spelled, Anything, Always, octets_spelled, both_spelled, sequence_spelled, list_spelled, made_spelled}
use Rattle.schema_rules.specs.declared.raw.RawAttribute.{RawAttribute}
use Rattle.ldap_parts.specs.Faults.{place_of}
use Rattle.ldap_parts.specs.Components.{StringsForm, octet_string_at, strings_at, strings_octets}
use Rattle.ldap_parts.specs.Attributes.{attribute_parts, attribute_with, AttributeForm, AttributesForm, attribute_at, attributes_at, attribute_octets, attributes_octets}
use Rattle.ldap_parts.proofs.ComponentLemmas.{octet_string_exact}
use Rattle.ldap_parts.proofs.StringLemmas.{strings_exact, strings_spelled, all_sound}

-- ---- read

-- an attribute is read exactly where it is encoded so
pub attribute_exact : Exact AttributeForm attribute_at
unfolding attribute_at
attribute_exact = made_exact attribute_parts attribute_with (Sequence 48 (Both (OctetString 4) (StringsForm 49))) (sequence_at place_of 48 (both_at (octet_string_at 4) (strings_at 49)))
    (λ x. refl) (λ y. refl) (sequence_exact place_of 48 _ _ (both_exact _ _ _ _ (octet_string_exact 4) (strings_exact 49)))

-- an attribute takes at least one byte
pub attribute_shortens : Shortens AttributeForm
attribute_shortens bytes x rest h = Begins-shorter bytes 48 h.0 rest h.2

-- so is a list of them
pub attributes_exact : Exact AttributesForm attributes_at
attributes_exact = list_exact place_of 48 AttributeForm attribute_at attribute_exact attribute_shortens

attribute_advances : Advances attribute_at
attribute_advances = advances AttributeForm attribute_at attribute_exact attribute_shortens

-- one that was read stands after those before it
pub attributes_go_on : (prefix : List RawAttribute) (stop : ℕ) (bytes : List ℕ) (x : RawAttribute) (rest : List ℕ) → 0 < length bytes → attribute_at stop bytes ≡ Ok (x, rest)
    → with_prefix (prefix ++ x ∷ []) (many_at attribute_at stop rest) ≡ with_prefix prefix (many_at attribute_at stop bytes)
attributes_go_on prefix stop bytes x rest some h = many_goes_on attribute_at attribute_advances prefix stop bytes x rest some h

-- where one is refused, all are
pub attributes_fail : (prefix : List RawAttribute) (stop : ℕ) (bytes : List ℕ) (e : ℕ) → 0 < length bytes → attribute_at stop bytes ≡ Err e → with_prefix prefix (many_at attribute_at stop bytes) ≡ Err e
attributes_fail prefix stop bytes e some h = many_fails attribute_at attribute_advances prefix stop bytes e some h

-- where no byte is left, they are those that were read
pub attributes_end : (prefix : List RawAttribute) (stop : ℕ) (bytes : List ℕ) → length bytes ≡ 0 → with_prefix prefix (many_at attribute_at stop bytes) ≡ Ok prefix
attributes_end prefix stop bytes none = many_ended attribute_at prefix stop bytes none

-- ---- written

abbrev body : List ℕ × List (List ℕ) → List ℕ
body parts = element 4 parts.0 ++ strings_octets 49 parts.1

-- what is written of an attribute is an encoding of it
pub attribute_spelled : Spelled AttributeForm attribute_octets (Always {X = RawAttribute}) Anything
unfolding attribute_octets
attribute_spelled = record {
  spells = λ x rest small sound after.
      (made_spelled attribute_parts _ _ _ Anything (sequence_spelled 48 (Both (OctetString 4) (StringsForm 49)) body (λ p. Unit {0} × Unit {0}) Anything (omega arith)
      (both_spelled (OctetString 4) (StringsForm 49) (element 4) (strings_octets 49) (Always {X = List ℕ}) (Always {X = List (List ℕ)}) Anything Anything
      (octets_spelled 4 (omega arith)) (strings_spelled 49 (omega arith)) (λ y rest sound after. tt)) tt)).spells x rest small (tt, tt) after;
}

-- so is what is written of a list
pub attributes_spelled : Spelled AttributesForm attributes_octets (Always {X = List RawAttribute}) Anything
attributes_spelled = record {
  spells = λ xs rest small sound after.
      (list_spelled 48 AttributeForm attribute_octets (Always {X = RawAttribute}) (omega arith) attribute_spelled).spells xs rest small (all_sound (Always {X = RawAttribute}) (λ x. tt) xs) after;
}
