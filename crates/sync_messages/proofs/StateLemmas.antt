-- The value of the Sync State control: its reading is exact, and its canonical spelling is a spelling.
use Rattle.std.proofs.Common.{◌≡◌, ℕ, ◌<◌, ◌^◌, List, [], ◌++◌, Option, Result, Ok, ℤ, pos, refl, ap, ◌∙◌, inl, inr, arith, FitsSigned}
use Rattle.std.specs.Prelude.{IfOk}
use Rattle.std.specs.Int.{w64}
use Rattle.std.specs.Ordering.{int_eq}
use Rattle.std.proofs.lemmas.Bool.Decides.{Decides-int_eq}
use Rattle.ldap_ber.specs.Form.{Integer, Both, MadeOf, Sequence}
use Rattle.ldap_ber.specs.Reading.{both_at, sequence_at}
use Rattle.ldap_ber.specs.Canonical.{element, integer_octets}
use Rattle.ldap_ber.specs.Writer.{IsSmall}
use Rattle.ldap_ber.proofs.Steps.{chosen, ok_is}
use Rattle.ldap_ber.proofs.ExactLemmas.{Exact, both_exact, meaning_exact, sequence_exact, made_exact, whole_found, whole_only}
use Rattle.ldap_ber.proofs.CanonicalLemmas.{Spelled, Anything, Always, Lacks, both_spelled, meaning_spelled, sequence_spelled, made_spelled, whole_spelled, if_written_soundly, none_next}
use Rattle.ldap_ber.proofs.IntegerLemmas.{integer_spelled}
use Rattle.sync_messages.specs.declared.fault.SyncFault.{SyncFault}
use Rattle.sync_messages.specs.declared.fault.SyncFault.TheVariants.{Ber}
use Rattle.sync_messages.specs.declared.state.State.{State}
use Rattle.sync_messages.specs.declared.state.State.TheVariants.{Present, Add, Modify, Delete}
use Rattle.sync_messages.specs.declared.state.SyncState.{SyncState}
use Rattle.ldap_ber.specs.Gives.{Gives}
use Rattle.sync_messages.specs.Faults.{SyncFails}
use Rattle.sync_messages.specs.Parts.{CookieForm, UuidForm, enumerated_at, cookie_at, uuid_at, cookie_octets, uuid_octets}
use Rattle.sync_messages.specs.State.{kind_number, kind_of, IsKind, KindForm, kind_at, state_parts, state_with, StateForm, state_at, state_of, state_octets}
use Rattle.sync_messages.proofs.UuidLemmas.{uuid_exact, uuid_spelled}
use Rattle.sync_messages.proofs.PartLemmas.{enumerated_exact, cookie_exact, cookie_spelled, if_found, only_this}

-- ---- the state by itself

kind_there : (number : ℤ) (kind : State) → kind_of number ≡ Ok kind → IsKind number kind
kind_there number kind h = elim (chosen (int_eq number (pos 0)) _ _ _ h) [
  | inl s ↦ (Decides-int_eq number (pos 0)).0 s.0 ∙ ap kind_number (ok_is Present kind s.1)
  | inr s ↦ elim (chosen (int_eq number (pos 1)) _ _ _ s.1) [
    | inl t ↦ (Decides-int_eq number (pos 1)).0 t.0 ∙ ap kind_number (ok_is Add kind t.1)
    | inr t ↦ elim (chosen (int_eq number (pos 2)) _ _ _ t.1) [
      | inl u ↦ (Decides-int_eq number (pos 2)).0 u.0 ∙ ap kind_number (ok_is Modify kind u.1)
      | inr u ↦ elim (chosen (int_eq number (pos 3)) _ _ _ u.1) [
        | inl v ↦ (Decides-int_eq number (pos 3)).0 v.0 ∙ ap kind_number (ok_is Delete kind v.1)
        | inr v ↦ absurd (let e = v.1 in cc)
      ]
    ]
  ]
]

kind_back : (number : ℤ) (kind : State) → IsKind number kind → kind_of number ≡ Ok kind
kind_back number Present h = rw h refl
kind_back number Add h = rw h refl
kind_back number Modify h = rw h refl
kind_back number Delete h = rw h refl

kind_exact : Exact KindForm kind_at
kind_exact = meaning_exact IsKind (λ at number. kind_of number) (Integer 10) enumerated_at (λ at. kind_there) (λ at. kind_back) enumerated_exact

kind_fits : (kind : State) → FitsSigned w64 (kind_number kind)
kind_fits Present = omega arith
kind_fits Add = omega arith
kind_fits Modify = omega arith
kind_fits Delete = omega arith

abbrev kind_octets : State → List ℕ
kind_octets kind = element 10 (integer_octets (kind_number kind))

kind_spelled : Spelled KindForm kind_octets (Always {X = State}) Anything
kind_spelled = meaning_spelled IsKind (Integer 10) (λ number. element 10 (integer_octets number)) (FitsSigned w64) Anything kind_number (Always {X = State})
    (λ kind sound. (refl, kind_fits kind)) (integer_spelled 10 (omega arith))

-- ---- the value

state_exact : Exact StateForm state_at
unfolding StateForm
state_exact = made_exact state_parts state_with (Sequence 48 (Both KindForm (Both UuidForm CookieForm))) (sequence_at Ber 48 (both_at kind_at (both_at uuid_at cookie_at)))
    (λ x. refl) (λ y. refl) (sequence_exact Ber 48 _ _ (both_exact _ _ _ _ kind_exact (both_exact _ _ _ _ uuid_exact cookie_exact)))

state_read : (bytes : List ℕ) (state : SyncState) → StateForm bytes state [] → state_of bytes ≡ Ok state
unfolding state_of
state_read bytes state h = whole_only Ber StateForm state_at state_exact bytes state h

-- bytes that were read spell the value
pub state_found : (result : Result SyncState SyncFault) (bytes : List ℕ) → Gives SyncFails (λ x. Ok x) result (state_of bytes) → IfOk result (λ state. StateForm bytes state [])
unfolding state_of
state_found result bytes g = if_found StateForm bytes result (state_of bytes) g (λ state h. whole_found Ber StateForm state_at state_exact bytes state h)

-- bytes that spell a value are read as it
pub state_only : (result : Result SyncState SyncFault) (bytes : List ℕ) (state : SyncState) → Gives SyncFails (λ x. Ok x) result (state_of bytes) → StateForm bytes state [] → Gives SyncFails (λ x. Ok x) result (Ok state)
state_only result bytes state g h = only_this result (state_of bytes) state g (state_read bytes state h)

abbrev body : State × (ℕ × Option (List ℕ)) → List ℕ
body parts = kind_octets parts.0 ++ (uuid_octets parts.1.0 ++ cookie_octets parts.1.1)

-- the identity has at most sixteen octets
abbrev HasIdentity : State × (ℕ × Option (List ℕ)) → Type 0
HasIdentity parts = Unit {0} × ((parts.1.0 < 2 ^ 128) × Unit {0})

body_spelled : Spelled (Both KindForm (Both UuidForm CookieForm)) body HasIdentity (Lacks 4)
body_spelled = both_spelled KindForm (Both UuidForm CookieForm) kind_octets (λ parts. uuid_octets parts.0 ++ cookie_octets parts.1) (Always {X = State}) (λ parts. (parts.0 < 2 ^ 128) × Unit {0}) Anything (Lacks 4)
    kind_spelled
    (both_spelled UuidForm CookieForm uuid_octets cookie_octets (λ uuid. uuid < 2 ^ 128) (Always {X = Option (List ℕ)}) Anything (Lacks 4) uuid_spelled cookie_spelled (λ cookie rest sound after. tt))
    (λ parts rest sound after. tt)

canonical : (state : SyncState) → state.uuid < 2 ^ 128 → IsSmall (state_octets state) → StateForm (state_octets state) state []
unfolding StateForm state_octets
canonical state in_range small =
    whole_spelled (MadeOf state_parts (Sequence 48 (Both KindForm (Both UuidForm CookieForm)))) (λ y. element 48 (body (state_parts y))) (λ y. HasIdentity (state_parts y)) Anything
    (made_spelled state_parts _ _ _ Anything (sequence_spelled 48 (Both KindForm (Both UuidForm CookieForm)) body _ _ (omega arith) body_spelled (none_next 4)))
    tt state (tt, (in_range, tt)) small

-- the canonical octets of a value spell it
pub state_spelled : {E : Type 0} (result : Result (List ℕ) E) (state : SyncState) → IfOk result (λ o. o ≡ state_octets state) → IfOk result IsSmall → IfOk result (λ o. state.uuid < 2 ^ 128) → IfOk result (λ o. StateForm o state [])
state_spelled result state is small in_range = if_written_soundly result (state_octets state) (state.uuid < 2 ^ 128) (λ o. StateForm o state []) is small in_range (canonical state)

-- what is written of a Sync State value is read again as the value
pub state_read_again : {E : Type 0} (result : Result (List ℕ) E) (state : SyncState) → IfOk result (λ o. o ≡ state_octets state) → IfOk result IsSmall → IfOk result (λ o. state.uuid < 2 ^ 128) → IfOk result (λ o. state_of o ≡ Ok state)
state_read_again result state is small in_range = if_written_soundly result (state_octets state) (state.uuid < 2 ^ 128) (λ o. state_of o ≡ Ok state) is small in_range (λ r s. state_read (state_octets state) state (canonical state r s))
