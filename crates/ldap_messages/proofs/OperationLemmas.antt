-- Operations: their reading is exact.
use Rattle.std.proofs.Common.{◌≡◌, ℕ, eqb, eqb-true, List, [], ◌∷◌, length, Ok, refl, subst, inl, inr, arith}
use Rattle.ldap_ber.specs.Reader.{has_tag}
use Rattle.ldap_ber.specs.Form.{Form, OctetString}
use Rattle.ldap_ber.specs.Reading.{Reading, made_at}
use Rattle.ldap_ber.proofs.Steps.{chosen, guard_on}
use Rattle.ldap_ber.proofs.ExactLemmas.{Exact, made_ok, both_exact, meaning_exact, sequence_exact}
use Rattle.ldap_parts.specs.Faults.{place_of}
use Rattle.ldap_parts.specs.Components.{octet_string_at}
use Rattle.ldap_parts.proofs.ComponentLemmas.{octet_string_exact, number_exact, boolean_value_exact, range_exact, option_exact}
use Rattle.ldap_parts.proofs.StringLemmas.{strings_exact}
use Rattle.ldap_parts.proofs.AttributeLemmas.{attributes_exact}
use Rattle.ldap_parts.proofs.FilterLemmas.{assertion_exact, filter_exact, goes_by}
use Rattle.ldap_messages.specs.declared.bind.Authentication.{Authentication}
use Rattle.ldap_messages.specs.declared.bind.Authentication.TheVariants.{Simple, Sasl}
use Rattle.ldap_messages.specs.LdapResult.{ResponseForm, response_at}
use Rattle.ldap_messages.specs.Bind.{BindForm, bind_at, BindResponseForm, bind_response_at, AuthenticationForm, authentication_at}
use Rattle.ldap_messages.specs.Unbind.{UnbindForm, unbind_at, IsNull, null_of}
use Rattle.ldap_messages.specs.Search.{SearchBoundsForm, search_bounds_at, SearchForm, search_at, EntryForm, entry_at, ReferenceForm, reference_at}
use Rattle.ldap_messages.specs.Modify.{ModifyForm, modify_at}
use Rattle.ldap_messages.specs.Add.{AddForm, add_at}
use Rattle.ldap_messages.specs.Delete.{DeleteForm, delete_at}
use Rattle.ldap_messages.specs.ModifyDn.{RenameForm, rename_at}
use Rattle.ldap_messages.specs.Compare.{CompareForm, compare_at}
use Rattle.ldap_messages.specs.Abandon.{AbandonForm, abandon_at}
use Rattle.ldap_messages.specs.Extended.{ExtendedForm, extended_at, ExtendedResponseForm, extended_response_at}
use Rattle.ldap_messages.specs.Intermediate.{IntermediateForm, intermediate_at}
use Rattle.ldap_messages.specs.Operation.{Operation, bind, unbind, search, modify, add, delete, rename, compare, abandon, extended, bind_response, entry, search_done, reference, modify_response, add_response, delete_response, rename_response, compare_response, extended_response, intermediate, OperationForm, other_response_at, write_response_at, search_response_at, session_response_at, write_request_at, entry_request_at, operation_at}
use Rattle.ldap_messages.proofs.UriLemmas.{uris_exact}
use Rattle.ldap_messages.proofs.LdapResultLemmas.{ldap_result_exact, response_exact}
use Rattle.ldap_messages.proofs.ModifyLemmas.{modify_exact}

-- ---- one by one

authentication_found : (stop : ℕ) (bytes : List ℕ) (x : Authentication) (rest : List ℕ) → authentication_at stop bytes ≡ Ok (x, rest) → AuthenticationForm bytes x rest
unfolding authentication_at
authentication_found stop bytes x rest h = elim (chosen (has_tag 128 bytes) _ _ _ h) [
  | inl s ↦ let m = made_ok Simple (octet_string_at 128) stop bytes x rest s.1 in subst (λ (y : Authentication). AuthenticationForm bytes y rest) m.2 ((octet_string_exact 128).found stop bytes m.0 rest m.1)
  | inr s ↦ let m = made_ok Sasl (octet_string_at 163) stop bytes x rest s.1 in subst (λ (y : Authentication). AuthenticationForm bytes y rest) m.2 ((octet_string_exact 163).found stop bytes m.0 rest m.1)
]

authentication_only : (stop : ℕ) (bytes : List ℕ) (x : Authentication) (rest : List ℕ) → AuthenticationForm bytes x rest → authentication_at stop bytes ≡ Ok (x, rest)
unfolding authentication_at
authentication_only stop bytes (Simple o) rest h = goes_by (octet_string_at 128) authentication_at stop bytes 128 o rest rest o (Simple o) h (λ more r. rw r refl) ((octet_string_exact 128).only stop bytes o rest h)
authentication_only stop bytes (Sasl o) rest h = goes_by (octet_string_at 163) authentication_at stop bytes 163 o rest rest o (Sasl o) h (λ more r. rw r refl) ((octet_string_exact 163).only stop bytes o rest h)

authentication_exact : Exact AuthenticationForm authentication_at
authentication_exact = record { found = authentication_found; only = authentication_only }

bind_exact : Exact BindForm bind_at
unfolding bind_at
bind_exact = sequence_exact place_of 96 _ _ (both_exact _ _ _ _ (range_exact 1 127 2) (both_exact _ _ _ _ (octet_string_exact 4) authentication_exact))

bind_response_exact : Exact BindResponseForm bind_response_at
unfolding bind_response_at
bind_response_exact = sequence_exact place_of 97 _ _ (both_exact _ _ _ _ ldap_result_exact (option_exact 135))

null_there : (place : ℕ) (body : List ℕ) (u : Unit {0}) → null_of place body ≡ Ok u → IsNull body u
null_there place [] u h = refl
null_there place (b ∷ body) u h =
    let g = guard_on (eqb (length (b ∷ body)) 0) place (Ok tt) u h in
    let none : length (b ∷ body) ≡ 0 = eqb-true (length (b ∷ body)) 0 g.0 in
    absurd (omega arith)

null_back : (place : ℕ) (body : List ℕ) (u : Unit {0}) → IsNull body u → null_of place body ≡ Ok u
null_back place body u h = rw h refl

unbind_exact : Exact UnbindForm unbind_at
unfolding unbind_at
unbind_exact = meaning_exact IsNull null_of (OctetString 66) (octet_string_at 66) null_there null_back (octet_string_exact 66)

search_bounds_exact : Exact SearchBoundsForm search_bounds_at
unfolding search_bounds_at
search_bounds_exact =
    both_exact _ _ _ _ (octet_string_exact 4) (both_exact _ _ _ _ (range_exact 0 2 10) (both_exact _ _ _ _ (range_exact 0 3 10) (both_exact _ _ _ _ (range_exact 0 2147483647 2)
    (both_exact _ _ _ _ (range_exact 0 2147483647 2) boolean_value_exact))))

search_exact : Exact SearchForm search_at
unfolding search_at
search_exact = sequence_exact place_of 99 _ _ (both_exact _ _ _ _ search_bounds_exact (both_exact _ _ _ _ (filter_exact 32) (strings_exact 48)))

entry_exact : Exact EntryForm entry_at
unfolding entry_at
entry_exact = sequence_exact place_of 100 _ _ (both_exact _ _ _ _ (octet_string_exact 4) attributes_exact)

reference_exact : Exact ReferenceForm reference_at
reference_exact = uris_exact 115

add_exact : Exact AddForm add_at
unfolding add_at
add_exact = sequence_exact place_of 104 _ _ (both_exact _ _ _ _ (octet_string_exact 4) attributes_exact)

delete_exact : Exact DeleteForm delete_at
unfolding delete_at
delete_exact = octet_string_exact 74

rename_exact : Exact RenameForm rename_at
unfolding rename_at
rename_exact = sequence_exact place_of 108 _ _ (both_exact _ _ _ _ (octet_string_exact 4) (both_exact _ _ _ _ (octet_string_exact 4) (both_exact _ _ _ _ boolean_value_exact (option_exact 128))))

compare_exact : Exact CompareForm compare_at
unfolding compare_at
compare_exact = sequence_exact place_of 110 _ _ (both_exact _ _ _ _ (octet_string_exact 4) (assertion_exact 48))

abandon_exact : Exact AbandonForm abandon_at
unfolding abandon_at
abandon_exact = number_exact 80

extended_exact : Exact ExtendedForm extended_at
unfolding extended_at
extended_exact = sequence_exact place_of 119 _ _ (both_exact _ _ _ _ (octet_string_exact 128) (option_exact 129))

extended_response_exact : Exact ExtendedResponseForm extended_response_at
unfolding extended_response_at
extended_response_exact = sequence_exact place_of 120 _ _ (both_exact _ _ _ _ ldap_result_exact (both_exact _ _ _ _ (option_exact 138) (option_exact 139)))

intermediate_exact : Exact IntermediateForm intermediate_at
unfolding intermediate_at
intermediate_exact = sequence_exact place_of 121 _ _ (both_exact _ _ _ _ (option_exact 128) (option_exact 129))

-- ---- the choice

made_found : {X : Type 0} (make : X → Operation) (R : Form X) (f : Reading ℕ X) → Exact R f → ((bytes : List ℕ) (x : X) (rest : List ℕ) → R bytes x rest → OperationForm bytes (make x) rest)
    → (stop : ℕ) (bytes : List ℕ) (y : Operation) (rest : List ℕ) → made_at make f stop bytes ≡ Ok (y, rest) → OperationForm bytes y rest
made_found make R f p into stop bytes y rest h =
    let m = made_ok make f stop bytes y rest h in
    subst (λ (z : Operation). OperationForm bytes z rest) m.2 (into bytes m.0 rest (p.found stop bytes m.0 rest m.1))

other_response_found : (stop : ℕ) (bytes : List ℕ) (op : Operation) (rest : List ℕ) → other_response_at stop bytes ≡ Ok (op, rest) → OperationForm bytes op rest
unfolding other_response_at
other_response_found stop bytes op rest h = elim (chosen (has_tag 111 bytes) _ _ _ h) [
  | inl a' ↦ made_found compare_response (ResponseForm 111) (response_at 111) (response_exact 111) (λ bs x rs k. k) stop bytes op rest a'.1
  | inr a' ↦ made_found intermediate IntermediateForm intermediate_at intermediate_exact (λ bs x rs k. k) stop bytes op rest a'.1
]

write_response_found : (stop : ℕ) (bytes : List ℕ) (op : Operation) (rest : List ℕ) → write_response_at stop bytes ≡ Ok (op, rest) → OperationForm bytes op rest
unfolding write_response_at
write_response_found stop bytes op rest h = elim (chosen (has_tag 103 bytes) _ _ _ h) [
  | inl a' ↦ made_found modify_response (ResponseForm 103) (response_at 103) (response_exact 103) (λ bs x rs k. k) stop bytes op rest a'.1
  | inr a' ↦ elim (chosen (has_tag 105 bytes) _ _ _ a'.1) [
    | inl b' ↦ made_found add_response (ResponseForm 105) (response_at 105) (response_exact 105) (λ bs x rs k. k) stop bytes op rest b'.1
    | inr b' ↦ elim (chosen (has_tag 107 bytes) _ _ _ b'.1) [
      | inl c' ↦ made_found delete_response (ResponseForm 107) (response_at 107) (response_exact 107) (λ bs x rs k. k) stop bytes op rest c'.1
      | inr c' ↦ elim (chosen (has_tag 109 bytes) _ _ _ c'.1) [
        | inl d' ↦ made_found rename_response (ResponseForm 109) (response_at 109) (response_exact 109) (λ bs x rs k. k) stop bytes op rest d'.1
        | inr d' ↦ other_response_found stop bytes op rest d'.1
      ]
    ]
  ]
]

search_response_found : (stop : ℕ) (bytes : List ℕ) (op : Operation) (rest : List ℕ) → search_response_at stop bytes ≡ Ok (op, rest) → OperationForm bytes op rest
unfolding search_response_at
search_response_found stop bytes op rest h = elim (chosen (has_tag 100 bytes) _ _ _ h) [
  | inl a' ↦ made_found entry EntryForm entry_at entry_exact (λ bs x rs k. k) stop bytes op rest a'.1
  | inr a' ↦ elim (chosen (has_tag 101 bytes) _ _ _ a'.1) [
    | inl b' ↦ made_found search_done (ResponseForm 101) (response_at 101) (response_exact 101) (λ bs x rs k. k) stop bytes op rest b'.1
    | inr b' ↦ elim (chosen (has_tag 115 bytes) _ _ _ b'.1) [
      | inl c' ↦ made_found reference ReferenceForm reference_at reference_exact (λ bs x rs k. k) stop bytes op rest c'.1
      | inr c' ↦ write_response_found stop bytes op rest c'.1
    ]
  ]
]

session_response_found : (stop : ℕ) (bytes : List ℕ) (op : Operation) (rest : List ℕ) → session_response_at stop bytes ≡ Ok (op, rest) → OperationForm bytes op rest
unfolding session_response_at
session_response_found stop bytes op rest h = elim (chosen (has_tag 97 bytes) _ _ _ h) [
  | inl a' ↦ made_found bind_response BindResponseForm bind_response_at bind_response_exact (λ bs x rs k. k) stop bytes op rest a'.1
  | inr a' ↦ elim (chosen (has_tag 120 bytes) _ _ _ a'.1) [
    | inl b' ↦ made_found extended_response ExtendedResponseForm extended_response_at extended_response_exact (λ bs x rs k. k) stop bytes op rest b'.1
    | inr b' ↦ search_response_found stop bytes op rest b'.1
  ]
]

write_request_found : (stop : ℕ) (bytes : List ℕ) (op : Operation) (rest : List ℕ) → write_request_at stop bytes ≡ Ok (op, rest) → OperationForm bytes op rest
unfolding write_request_at
write_request_found stop bytes op rest h = elim (chosen (has_tag 102 bytes) _ _ _ h) [
  | inl a' ↦ made_found modify ModifyForm modify_at modify_exact (λ bs x rs k. k) stop bytes op rest a'.1
  | inr a' ↦ elim (chosen (has_tag 104 bytes) _ _ _ a'.1) [
    | inl b' ↦ made_found add AddForm add_at add_exact (λ bs x rs k. k) stop bytes op rest b'.1
    | inr b' ↦ elim (chosen (has_tag 74 bytes) _ _ _ b'.1) [
      | inl c' ↦ made_found delete DeleteForm delete_at delete_exact (λ bs x rs k. k) stop bytes op rest c'.1
      | inr c' ↦ elim (chosen (has_tag 108 bytes) _ _ _ c'.1) [
        | inl d' ↦ made_found rename RenameForm rename_at rename_exact (λ bs x rs k. k) stop bytes op rest d'.1
        | inr d' ↦ session_response_found stop bytes op rest d'.1
      ]
    ]
  ]
]

entry_request_found : (stop : ℕ) (bytes : List ℕ) (op : Operation) (rest : List ℕ) → entry_request_at stop bytes ≡ Ok (op, rest) → OperationForm bytes op rest
unfolding entry_request_at
entry_request_found stop bytes op rest h = elim (chosen (has_tag 99 bytes) _ _ _ h) [
  | inl a' ↦ made_found search SearchForm search_at search_exact (λ bs x rs k. k) stop bytes op rest a'.1
  | inr a' ↦ elim (chosen (has_tag 110 bytes) _ _ _ a'.1) [
    | inl b' ↦ made_found compare CompareForm compare_at compare_exact (λ bs x rs k. k) stop bytes op rest b'.1
    | inr b' ↦ write_request_found stop bytes op rest b'.1
  ]
]

operation_found : (stop : ℕ) (bytes : List ℕ) (op : Operation) (rest : List ℕ) → operation_at stop bytes ≡ Ok (op, rest) → OperationForm bytes op rest
unfolding operation_at
operation_found stop bytes op rest h = elim (chosen (has_tag 96 bytes) _ _ _ h) [
  | inl a' ↦ made_found bind BindForm bind_at bind_exact (λ bs x rs k. k) stop bytes op rest a'.1
  | inr a' ↦ elim (chosen (has_tag 66 bytes) _ _ _ a'.1) [
    | inl b' ↦ made_found unbind UnbindForm unbind_at unbind_exact (λ bs x rs k. k) stop bytes op rest b'.1
    | inr b' ↦ elim (chosen (has_tag 80 bytes) _ _ _ b'.1) [
      | inl c' ↦ made_found abandon AbandonForm abandon_at abandon_exact (λ bs x rs k. k) stop bytes op rest c'.1
      | inr c' ↦ elim (chosen (has_tag 119 bytes) _ _ _ c'.1) [
        | inl d' ↦ made_found extended ExtendedForm extended_at extended_exact (λ bs x rs k. k) stop bytes op rest d'.1
        | inr d' ↦ entry_request_found stop bytes op rest d'.1
      ]
    ]
  ]
]

operation_only : (stop : ℕ) (bytes : List ℕ) (op : Operation) (rest : List ℕ) → OperationForm bytes op rest → operation_at stop bytes ≡ Ok (op, rest)
unfolding operation_at entry_request_at write_request_at session_response_at search_response_at write_response_at other_response_at
operation_only stop bytes (bind x) rest h = goes_by bind_at operation_at stop bytes 96 h.0 rest rest x (bind x) h.2 (λ more r. rw r refl) (bind_exact.only stop bytes x rest h)
operation_only stop bytes (unbind x) rest h = goes_by unbind_at operation_at stop bytes 66 h.0 rest rest x (unbind x) h.1 (λ more r. rw r refl) (unbind_exact.only stop bytes x rest h)
operation_only stop bytes (search x) rest h = goes_by search_at operation_at stop bytes 99 h.0 rest rest x (search x) h.2 (λ more r. rw r refl) (search_exact.only stop bytes x rest h)
operation_only stop bytes (modify x) rest h = goes_by modify_at operation_at stop bytes 102 h.0 rest rest x (modify x) h.2 (λ more r. rw r refl) (modify_exact.only stop bytes x rest h)
operation_only stop bytes (add x) rest h = goes_by add_at operation_at stop bytes 104 h.0 rest rest x (add x) h.2 (λ more r. rw r refl) (add_exact.only stop bytes x rest h)
operation_only stop bytes (delete x) rest h = goes_by delete_at operation_at stop bytes 74 x rest rest x (delete x) h (λ more r. rw r refl) (delete_exact.only stop bytes x rest h)
operation_only stop bytes (rename x) rest h = goes_by rename_at operation_at stop bytes 108 h.0 rest rest x (rename x) h.2 (λ more r. rw r refl) (rename_exact.only stop bytes x rest h)
operation_only stop bytes (compare x) rest h = goes_by compare_at operation_at stop bytes 110 h.0 rest rest x (compare x) h.2 (λ more r. rw r refl) (compare_exact.only stop bytes x rest h)
operation_only stop bytes (abandon x) rest h = goes_by abandon_at operation_at stop bytes 80 h.0 rest rest x (abandon x) h.1 (λ more r. rw r refl) (abandon_exact.only stop bytes x rest h)
operation_only stop bytes (extended x) rest h = goes_by extended_at operation_at stop bytes 119 h.0 rest rest x (extended x) h.2 (λ more r. rw r refl) (extended_exact.only stop bytes x rest h)
operation_only stop bytes (bind_response x) rest h = goes_by bind_response_at operation_at stop bytes 97 h.0 rest rest x (bind_response x) h.2 (λ more r. rw r refl) (bind_response_exact.only stop bytes x rest h)
operation_only stop bytes (entry x) rest h = goes_by entry_at operation_at stop bytes 100 h.0 rest rest x (entry x) h.2 (λ more r. rw r refl) (entry_exact.only stop bytes x rest h)
operation_only stop bytes (search_done x) rest h = goes_by (response_at 101) operation_at stop bytes 101 h.0 rest rest x (search_done x) h.2 (λ more r. rw r refl) ((response_exact 101).only stop bytes x rest h)
operation_only stop bytes (reference x) rest h = goes_by reference_at operation_at stop bytes 115 h.1.0 rest rest x (reference x) h.1.1 (λ more r. rw r refl) (reference_exact.only stop bytes x rest h)
operation_only stop bytes (modify_response x) rest h = goes_by (response_at 103) operation_at stop bytes 103 h.0 rest rest x (modify_response x) h.2 (λ more r. rw r refl) ((response_exact 103).only stop bytes x rest h)
operation_only stop bytes (add_response x) rest h = goes_by (response_at 105) operation_at stop bytes 105 h.0 rest rest x (add_response x) h.2 (λ more r. rw r refl) ((response_exact 105).only stop bytes x rest h)
operation_only stop bytes (delete_response x) rest h = goes_by (response_at 107) operation_at stop bytes 107 h.0 rest rest x (delete_response x) h.2 (λ more r. rw r refl) ((response_exact 107).only stop bytes x rest h)
operation_only stop bytes (rename_response x) rest h = goes_by (response_at 109) operation_at stop bytes 109 h.0 rest rest x (rename_response x) h.2 (λ more r. rw r refl) ((response_exact 109).only stop bytes x rest h)
operation_only stop bytes (compare_response x) rest h = goes_by (response_at 111) operation_at stop bytes 111 h.0 rest rest x (compare_response x) h.2 (λ more r. rw r refl) ((response_exact 111).only stop bytes x rest h)
operation_only stop bytes (extended_response x) rest h = goes_by extended_response_at operation_at stop bytes 120 h.0 rest rest x (extended_response x) h.2 (λ more r. rw r refl) (extended_response_exact.only stop bytes x rest h)
operation_only stop bytes (intermediate x) rest h = goes_by intermediate_at operation_at stop bytes 121 h.0 rest rest x (intermediate x) h.2 (λ more r. rw r refl) (intermediate_exact.only stop bytes x rest h)

-- whichever operation it is
pub operation_exact : Exact OperationForm operation_at
operation_exact = record { found = operation_found; only = operation_only }
