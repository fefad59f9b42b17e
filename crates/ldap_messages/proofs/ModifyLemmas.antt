-- Edits: their reading is exact, and their canonical spelling is a spelling.
use Rattle.std.proofs.Common.{◌≡◌, ℕ, ◌<◌, List, [], ◌∷◌, ◌++◌, length, Ok, Err, ℤ, pos, refl, ap, ◌∙◌, inl, inr, arith, FitsSigned}
use Rattle.std.specs.Int.{w64}
use Rattle.std.specs.Ordering.{int_eq}
use Rattle.std.proofs.lemmas.Bool.Decides.{Decides-int_eq}
use Rattle.ldap_ber.specs.Form.{OctetString, Integer, Both, Sequence, ListOf}
use Rattle.ldap_ber.specs.Reading.{many_at, both_at, sequence_at}
use Rattle.ldap_ber.specs.Canonical.{element, integer_octets}
use Rattle.ldap_ber.proofs.Steps.{chosen, ok_is}
use Rattle.ldap_ber.proofs.SkipLemmas.{Begins-shorter}
use Rattle.ldap_ber.proofs.ManyLemmas.{Advances, with_prefix, many_goes_on, many_fails, many_ended}
use Rattle.ldap_ber.proofs.ExactLemmas.{Exact, Shortens, both_exact, meaning_exact, made_exact, sequence_exact, list_exact, advances}
use Rattle.ldap_ber.proofs.CanonicalLemmas.{Spelled, Anything, Always, octets_spelled, both_spelled, meaning_spelled, made_spelled, sequence_spelled, list_spelled}
use Rattle.ldap_ber.proofs.IntegerLemmas.{integer_spelled}
use Rattle.schema_rules.specs.declared.raw.RawAttribute.{RawAttribute}
use Rattle.schema_rules.specs.declared.raw.RawEdit.{RawEdit}
use Rattle.schema_rules.specs.declared.raw.How.{How}
use Rattle.schema_rules.specs.declared.raw.How.TheVariants.{Add, Delete, Replace}
use Rattle.ldap_parts.specs.Faults.{place_of}
use Rattle.ldap_parts.specs.Components.{number_at}
use Rattle.ldap_parts.specs.Attributes.{AttributeForm, attribute_at, attribute_octets}
use Rattle.ldap_parts.proofs.ComponentLemmas.{octet_string_exact, number_exact}
use Rattle.ldap_parts.proofs.StringLemmas.{all_sound}
use Rattle.ldap_parts.proofs.AttributeLemmas.{attribute_exact, attribute_spelled}
use Rattle.ldap_messages.specs.Modify.{how_number, IsHow, HowForm, edit_parts, edit_with, EditForm, ModifyForm, how_of, how_at, edit_at, modify_at, edit_octets, edits_octets, modify_octets}

-- ---- read

how_there : (place : ℕ) (number : ℤ) (how : How) → how_of place number ≡ Ok how → IsHow number how
how_there place number how h = elim (chosen (int_eq number (pos 0)) _ _ _ h) [
  | inl s ↦ (Decides-int_eq number (pos 0)).0 s.0 ∙ ap how_number (ok_is Add how s.1)
  | inr s ↦ elim (chosen (int_eq number (pos 1)) _ _ _ s.1) [
    | inl t ↦ (Decides-int_eq number (pos 1)).0 t.0 ∙ ap how_number (ok_is Delete how t.1)
    | inr t ↦ elim (chosen (int_eq number (pos 2)) _ _ _ t.1) [
      | inl u ↦ (Decides-int_eq number (pos 2)).0 u.0 ∙ ap how_number (ok_is Replace how u.1)
      | inr u ↦ absurd (let e = u.1 in cc)
    ]
  ]
]

how_back : (place : ℕ) (number : ℤ) (how : How) → IsHow number how → how_of place number ≡ Ok how
how_back place number Add h = rw h refl
how_back place number Delete h = rw h refl
how_back place number Replace h = rw h refl

how_exact : Exact HowForm how_at
how_exact = meaning_exact IsHow how_of (Integer 10) (number_at 10) how_there how_back (number_exact 10)

edit_exact : Exact EditForm edit_at
unfolding edit_at
edit_exact = made_exact edit_parts edit_with (Sequence 48 (Both HowForm AttributeForm)) (sequence_at place_of 48 (both_at how_at attribute_at)) (λ x. refl) (λ y. refl)
    (sequence_exact place_of 48 _ _ (both_exact _ _ _ _ how_exact attribute_exact))

edit_shortens : Shortens EditForm
edit_shortens bytes x rest h = Begins-shorter bytes 48 h.0 rest h.2

-- a Modify is read from the octets that spell it, and from no others
pub modify_exact : Exact ModifyForm modify_at
unfolding modify_at
modify_exact = sequence_exact place_of 102 _ _ (both_exact _ _ _ _ (octet_string_exact 4) (list_exact place_of 48 EditForm edit_at edit_exact edit_shortens))

edit_advances : Advances edit_at
edit_advances = advances EditForm edit_at edit_exact edit_shortens

-- an edit that was read stands after those before it
pub edits_go_on : (prefix : List RawEdit) (stop : ℕ) (bytes : List ℕ) (x : RawEdit) (rest : List ℕ) → 0 < length bytes → edit_at stop bytes ≡ Ok (x, rest)
    → with_prefix (prefix ++ x ∷ []) (many_at edit_at stop rest) ≡ with_prefix prefix (many_at edit_at stop bytes)
edits_go_on prefix stop bytes x rest some h = many_goes_on edit_at edit_advances prefix stop bytes x rest some h

-- where one is refused, all are
pub edits_fail : (prefix : List RawEdit) (stop : ℕ) (bytes : List ℕ) (e : ℕ) → 0 < length bytes → edit_at stop bytes ≡ Err e → with_prefix prefix (many_at edit_at stop bytes) ≡ Err e
edits_fail prefix stop bytes e some h = many_fails edit_at edit_advances prefix stop bytes e some h

-- where no byte is left, they are those that were read
pub edits_end : (prefix : List RawEdit) (stop : ℕ) (bytes : List ℕ) → length bytes ≡ 0 → with_prefix prefix (many_at edit_at stop bytes) ≡ Ok prefix
edits_end prefix stop bytes none = many_ended edit_at prefix stop bytes none

-- ---- written

how_fits : (how : How) → FitsSigned w64 (how_number how)
how_fits Add = omega arith
how_fits Delete = omega arith
how_fits Replace = omega arith

abbrev how_octets : How → List ℕ
how_octets how = element 10 (integer_octets (how_number how))

how_spelled : Spelled HowForm how_octets (Always {X = How}) Anything
how_spelled = meaning_spelled IsHow (Integer 10) (λ number. element 10 (integer_octets number)) (FitsSigned w64) Anything how_number (Always {X = How})
    (λ how sound. (refl, how_fits how)) (integer_spelled 10 (omega arith))

abbrev body : How × RawAttribute → List ℕ
body parts = how_octets parts.0 ++ attribute_octets parts.1

edit_spelled : Spelled EditForm edit_octets (Always {X = RawEdit}) Anything
unfolding edit_octets
edit_spelled = record {
  spells = λ edit rest small sound after.
      (made_spelled edit_parts _ _ _ Anything (sequence_spelled 48 (Both HowForm AttributeForm) body (λ p. Unit {0} × Unit {0}) Anything (omega arith)
      (both_spelled HowForm AttributeForm how_octets attribute_octets (Always {X = How}) (Always {X = RawAttribute}) Anything Anything how_spelled attribute_spelled (λ y rest sound after. tt)) tt)).spells edit rest small (tt, tt) after;
}

edits_spelled : Spelled (ListOf 48 EditForm) edits_octets (Always {X = List RawEdit}) Anything
edits_spelled = record {
  spells = λ edits rest small sound after.
      (list_spelled 48 EditForm edit_octets (Always {X = RawEdit}) (omega arith) edit_spelled).spells edits rest small (all_sound (Always {X = RawEdit}) (λ x. tt) edits) after;
}

-- the canonical octets of a Modify spell it
pub modify_spelled : Spelled ModifyForm modify_octets (λ parts. Unit {0} × Unit {0}) Anything
modify_spelled = sequence_spelled 102 (Both (OctetString 4) (ListOf 48 EditForm)) (λ parts. element 4 parts.0 ++ edits_octets parts.1) (λ parts. Unit {0} × Unit {0}) Anything (omega arith)
    (both_spelled (OctetString 4) (ListOf 48 EditForm) (element 4) edits_octets (Always {X = List ℕ}) (Always {X = List RawEdit}) Anything Anything (octets_spelled 4 (omega arith)) edits_spelled (λ y rest sound after. tt)) tt
