-- The canonical spelling of an operation is one of its spellings.
use Rattle.std.proofs.Common.{◌≡◌, ◌≢◌, ℕ, ◌<◌, ◌≤◌, ◌%◌, ◌^◌, true, List, [], ◌++◌, length, Option, refl, append_assoc, arith}
use Rattle.ldap_ber.specs.Form.{Form, Both}
use Rattle.ldap_ber.proofs.CanonicalLemmas.{Spelled, Anything, Always, Lacks, octets_spelled, boolean_spelled, both_spelled, sequence_spelled, none_next}
use Rattle.ldap_ber.proofs.IntegerLemmas.{integer_spelled}
use Rattle.ldap_ber.proofs.ElementLemmas.{element_spells}
use Rattle.ldap_filter.specs.FilterTree.{FilterTree, depth}
use Rattle.ldap_parts.specs.Components.{OptionForm, string_octets}
use Rattle.ldap_parts.specs.Filters.{have_piece}
use Rattle.ldap_parts.proofs.ComponentLemmas.{range_spelled, option_spelled, option_lacks}
use Rattle.ldap_parts.proofs.StringLemmas.{strings_spelled}
use Rattle.ldap_parts.proofs.AttributeLemmas.{attributes_spelled}
use Rattle.ldap_parts.proofs.FilterSpellings.{assertion_spelled, filter_spelled}
use Rattle.ldap_messages.specs.declared.bind.Authentication.{Authentication}
use Rattle.ldap_messages.specs.declared.bind.Authentication.TheVariants.{Simple, Sasl}
use Rattle.ldap_messages.specs.Uris.{HaveOne}
use Rattle.ldap_messages.specs.LdapResult.{LdapResultForm, ldap_result_octets}
use Rattle.ldap_messages.specs.Bind.{AuthenticationForm, BindForm, BindResponseForm, authentication_octets, bind_octets, bind_response_octets}
use Rattle.ldap_messages.specs.Unbind.{UnbindForm, unbind_octets}
use Rattle.ldap_messages.specs.Search.{SearchBounds, SearchBoundsForm, SearchForm, EntryForm, ReferenceForm, search_bounds_octets, search_octets, entry_octets, reference_octets}
use Rattle.ldap_messages.specs.Add.{AddForm, add_octets}
use Rattle.ldap_messages.specs.ModifyDn.{RenameForm, rename_octets}
use Rattle.ldap_messages.specs.Compare.{CompareForm, compare_octets}
use Rattle.ldap_messages.specs.Extended.{ExtendedForm, ExtendedResponseForm, extended_octets, extended_response_octets}
use Rattle.ldap_messages.specs.Intermediate.{IntermediateForm, intermediate_octets}
use Rattle.ldap_messages.specs.Operation.{Operation, bind, unbind, search, modify, add, delete, rename, compare, abandon, extended, bind_response, entry, search_done, reference, modify_response, add_response, delete_response, rename_response, compare_response, extended_response, intermediate, OperationForm, operation_octets, IsOfGrammar, IsHeld}
use Rattle.ldap_messages.proofs.UriLemmas.{uris_spelled}
use Rattle.ldap_messages.proofs.LdapResultLemmas.{IsLdapResult, ldap_result_spelled, response_spelled}
use Rattle.ldap_messages.proofs.ModifyLemmas.{modify_spelled}

-- one component, and the other after it, whatever that is
and_then : {X Y : Type 0} {R : Form X} {S : Form Y} {c : X → List ℕ} {d : Y → List ℕ} {F : X → Type 0} {G : Y → Type 0} {B : List ℕ → Type 0} → Spelled R c F Anything → Spelled S d G B
    → Spelled (Both R S) (λ p. c p.0 ++ d p.1) (λ p. F p.0 × G p.1) B
and_then {X} {Y} {R} {S} {c} {d} {F} {G} {B} p q = both_spelled R S c d F G Anything B p q (λ y rest sound after. tt)

-- none of two tags comes next
abbrev Neither : ℕ → ℕ → List ℕ → Type 0
Neither one other rest = Lacks one rest × Lacks other rest

-- a component that may go on before an element of the first tag, and an optional string of the other
and_option : {X : Type 0} {R : Form X} {c : X → List ℕ} {F : X → Type 0} (one other : ℕ) → other ≢ one → other % 32 ≢ 31 → Spelled R c F (Lacks one)
    → Spelled (Both R (OptionForm other)) (λ p. c p.0 ++ string_octets other p.1) (λ p. F p.0 × Unit {0}) (Neither one other)
and_option {X} {R} {c} {F} one other ne low p = both_spelled R (OptionForm other) c (string_octets other) F (Always {X = Option (List ℕ)}) (Lacks one) (Neither one other)
    p (record { spells = λ value rest small sound after. (option_spelled other low).spells value rest small sound after.1 })
    (λ value rest sound after. option_lacks one other value rest ne after.0)

-- ---- one by one

authentication_goes : (x : Authentication) (rest : List ℕ) → length (authentication_octets x) < 2 ^ 32 → AuthenticationForm (authentication_octets x ++ rest) x rest
authentication_goes (Simple o) rest small = (octets_spelled 128 (omega arith)).spells o rest small tt tt
authentication_goes (Sasl o) rest small = (octets_spelled 163 (omega arith)).spells o rest small tt tt

authentication_spelled : Spelled AuthenticationForm authentication_octets (Always {X = Authentication}) Anything
authentication_spelled = record { spells = λ x rest small sound after. authentication_goes x rest small }

bind_spelled : Spelled BindForm bind_octets (λ x. ((1 ≤ x.0) × (x.0 ≤ 127)) × (Unit {0} × Unit {0})) Anything
bind_spelled = sequence_spelled 96 _ _ _ _ (omega arith) (and_then (range_spelled 1 127 2 (omega arith) (omega arith)) (and_then (octets_spelled 4 (omega arith)) authentication_spelled)) tt

bind_response_spelled : Spelled BindResponseForm bind_response_octets (λ x. IsLdapResult x.0 × Unit {0}) Anything
bind_response_spelled = sequence_spelled 97 _ _ _ _ (omega arith) (and_option 163 135 (omega arith) (omega arith) ldap_result_spelled) (none_next 163, none_next 135)

unbind_goes : (rest : List ℕ) → UnbindForm (unbind_octets ++ rest) tt rest
unbind_goes rest = ([], element_spells 66 [] rest (omega arith) (omega arith), refl)

abbrev IsBetween : ℕ → ℕ → ℕ → Type 0
IsBetween least most number = (least ≤ number) × (number ≤ most)

abbrev FitsFilter : FilterTree → Type 0
FitsFilter filter = (depth filter ≤ 32) × (have_piece filter ≡ true)

abbrev HasBounds : SearchBounds → Type 0
HasBounds search_bounds =
    Unit {0} × (IsBetween 0 2 search_bounds.1.0 × (IsBetween 0 3 search_bounds.1.1.0 × (IsBetween 0 2147483647 search_bounds.1.1.1.0 × (IsBetween 0 2147483647 search_bounds.1.1.1.1.0 × Unit {0}))))

search_bounds_spelled : Spelled SearchBoundsForm search_bounds_octets HasBounds Anything
unfolding search_bounds_octets
search_bounds_spelled = and_then (octets_spelled 4 (omega arith)) (and_then (range_spelled 0 2 10 (omega arith) (omega arith)) (and_then (range_spelled 0 3 10 (omega arith) (omega arith))
    (and_then (range_spelled 0 2147483647 2 (omega arith) (omega arith)) (and_then (range_spelled 0 2147483647 2 (omega arith) (omega arith)) (boolean_spelled 1 (omega arith))))))

search_spelled : Spelled SearchForm search_octets (λ x. HasBounds x.0 × (FitsFilter x.1.0 × Unit {0})) Anything
search_spelled = sequence_spelled 99 _ _ _ _ (omega arith) (and_then search_bounds_spelled (and_then (filter_spelled 32) (strings_spelled 48 (omega arith)))) tt

entry_spelled : Spelled EntryForm entry_octets (λ x. Unit {0} × Unit {0}) Anything
entry_spelled = sequence_spelled 100 _ _ _ _ (omega arith) (and_then (octets_spelled 4 (omega arith)) attributes_spelled) tt

reference_spelled : Spelled ReferenceForm reference_octets HaveOne Anything
reference_spelled = uris_spelled 115 (omega arith)

add_spelled : Spelled AddForm add_octets (λ x. Unit {0} × Unit {0}) Anything
add_spelled = sequence_spelled 104 _ _ _ _ (omega arith) (and_then (octets_spelled 4 (omega arith)) attributes_spelled) tt

rename_spelled : Spelled RenameForm rename_octets (λ x. Unit {0} × (Unit {0} × (Unit {0} × Unit {0}))) Anything
rename_spelled = sequence_spelled 108 _ _ _ _ (omega arith) (and_then (octets_spelled 4 (omega arith)) (and_then (octets_spelled 4 (omega arith)) (and_then (boolean_spelled 1 (omega arith)) (option_spelled 128 (omega arith))))) (none_next 128)

compare_spelled : Spelled CompareForm compare_octets (λ x. Unit {0} × (Unit {0} × Unit {0})) Anything
compare_spelled = sequence_spelled 110 _ _ _ _ (omega arith) (and_then (octets_spelled 4 (omega arith)) (assertion_spelled 48 (omega arith))) tt

extended_spelled : Spelled ExtendedForm extended_octets (λ x. Unit {0} × Unit {0}) Anything
extended_spelled = sequence_spelled 119 _ _ _ _ (omega arith) (and_then (octets_spelled 128 (omega arith)) (option_spelled 129 (omega arith))) (none_next 129)

options_spelled : (one other : ℕ) → other ≢ one → one % 32 ≢ 31 → other % 32 ≢ 31 → Spelled (Both (OptionForm one) (OptionForm other)) (λ p. string_octets one p.0 ++ string_octets other p.1) (λ p. Unit {0} × Unit {0}) (Neither one other)
options_spelled one other ne low below = and_option one other ne below (option_spelled one low)

intermediate_spelled : Spelled IntermediateForm intermediate_octets (λ x. Unit {0} × Unit {0}) Anything
intermediate_spelled = sequence_spelled 121 _ _ _ _ (omega arith) (options_spelled 128 129 (omega arith) (omega arith) (omega arith)) (none_next 128, none_next 129)

-- none of the tags of what may end an ExtendedResponse comes next
abbrev NoneOfThese : List ℕ → Type 0
NoneOfThese rest = Lacks 163 rest × Neither 138 139 rest

abbrev names_octets : Option (List ℕ) × Option (List ℕ) → List ℕ
names_octets p = string_octets 138 p.0 ++ string_octets 139 p.1

names_lack : (p : Option (List ℕ) × Option (List ℕ)) (rest : List ℕ) → Lacks 163 rest → Lacks 163 (names_octets p ++ rest)
names_lack p rest after = rw (append_assoc (string_octets 138 p.0) (string_octets 139 p.1) rest) (option_lacks 163 138 p.0 (string_octets 139 p.1 ++ rest) (omega arith) (option_lacks 163 139 p.1 rest (omega arith) after))

extended_response_spelled : Spelled ExtendedResponseForm extended_response_octets (λ x. IsLdapResult x.0 × (Unit {0} × Unit {0})) Anything
extended_response_spelled = sequence_spelled 120 _ _ _ _ (omega arith)
    (both_spelled LdapResultForm (Both (OptionForm 138) (OptionForm 139)) ldap_result_octets names_octets IsLdapResult (λ p. Unit {0} × Unit {0}) (Lacks 163) NoneOfThese
    ldap_result_spelled (record { spells = λ p rest small sound after. (options_spelled 138 139 (omega arith) (omega arith) (omega arith)).spells p rest small sound after.1 })
    (λ p rest sound after. names_lack p rest after.0))
    (none_next 163, (none_next 138, none_next 139))

-- ---- the choice

abbrev pub IsSound : Operation → Type 0
IsSound op = IsOfGrammar op × IsHeld op

operation_goes : (op : Operation) (rest : List ℕ) → length (operation_octets op) < 2 ^ 32 → IsSound op → OperationForm (operation_octets op ++ rest) op rest
operation_goes (bind x) rest small s = bind_spelled.spells x rest small (s.0, (tt, tt)) tt
operation_goes (unbind x) rest small s = unbind_goes rest
operation_goes (search x) rest small s = search_spelled.spells x rest small ((tt, ((omega arith, s.1.0), ((omega arith, s.0.0), ((omega arith, s.0.1), ((omega arith, s.0.2), tt))))), ((s.0.3, s.1.1), tt)) tt
operation_goes (modify x) rest small s = modify_spelled.spells x rest small (tt, tt) tt
operation_goes (add x) rest small s = add_spelled.spells x rest small (tt, tt) tt
operation_goes (delete x) rest small s = (octets_spelled 74 (omega arith)).spells x rest small tt tt
operation_goes (rename x) rest small s = rename_spelled.spells x rest small (tt, (tt, (tt, tt))) tt
operation_goes (compare x) rest small s = compare_spelled.spells x rest small (tt, (tt, tt)) tt
operation_goes (abandon x) rest small s = (integer_spelled 80 (omega arith)).spells x rest small s.1 tt
operation_goes (extended x) rest small s = extended_spelled.spells x rest small (tt, tt) tt
operation_goes (bind_response x) rest small s = bind_response_spelled.spells x rest small ((s.1, s.0), tt) tt
operation_goes (entry x) rest small s = entry_spelled.spells x rest small (tt, tt) tt
operation_goes (search_done x) rest small s = (response_spelled 101 (omega arith)).spells x rest small (s.1, s.0) tt
operation_goes (reference x) rest small s = reference_spelled.spells x rest small s.0 tt
operation_goes (modify_response x) rest small s = (response_spelled 103 (omega arith)).spells x rest small (s.1, s.0) tt
operation_goes (add_response x) rest small s = (response_spelled 105 (omega arith)).spells x rest small (s.1, s.0) tt
operation_goes (delete_response x) rest small s = (response_spelled 107 (omega arith)).spells x rest small (s.1, s.0) tt
operation_goes (rename_response x) rest small s = (response_spelled 109 (omega arith)).spells x rest small (s.1, s.0) tt
operation_goes (compare_response x) rest small s = (response_spelled 111 (omega arith)).spells x rest small (s.1, s.0) tt
operation_goes (extended_response x) rest small s = extended_response_spelled.spells x rest small ((s.1, s.0), (tt, tt)) tt
operation_goes (intermediate x) rest small s = intermediate_spelled.spells x rest small (tt, tt) tt

-- whichever operation it is
pub operation_spelled : Spelled OperationForm operation_octets IsSound Anything
operation_spelled = record { spells = λ op rest small sound after. operation_goes op rest small sound }
