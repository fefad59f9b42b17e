-- The value of the Sync Request control: its reading is exact, and its canonical spelling is a spelling.
use Rattle.std.proofs.Common.{◌≡◌, ℕ, Bool, false, List, [], ◌++◌, Option, Result, Ok, ℤ, pos, refl, ap, ◌∙◌, inl, inr, arith, FitsSigned}
use Rattle.std.specs.Prelude.{IfOk}
use Rattle.std.specs.Int.{w64}
use Rattle.std.specs.Ordering.{int_eq}
use Rattle.std.proofs.lemmas.Bool.Decides.{Decides-int_eq}
use Rattle.ldap_ber.specs.Form.{Integer, Both, MadeOf, Sequence}
use Rattle.ldap_ber.specs.Reading.{both_at, sequence_at}
use Rattle.ldap_ber.specs.Canonical.{element, integer_octets}
use Rattle.ldap_ber.specs.Writer.{IsSmall}
use Rattle.ldap_ber.proofs.Steps.{chosen, ok_is}
use Rattle.ldap_ber.proofs.ExactLemmas.{Exact, both_exact, meaning_exact, sequence_exact, made_exact, whole_found, whole_only}
use Rattle.ldap_ber.proofs.CanonicalLemmas.{Spelled, Anything, Always, both_spelled, meaning_spelled, sequence_spelled, made_spelled, whole_spelled, if_written, none_next}
use Rattle.ldap_ber.proofs.IntegerLemmas.{integer_spelled}
use Rattle.sync_messages.specs.declared.fault.SyncFault.{SyncFault}
use Rattle.sync_messages.specs.declared.fault.SyncFault.TheVariants.{Ber}
use Rattle.sync_messages.specs.declared.request.Mode.{Mode}
use Rattle.sync_messages.specs.declared.request.Mode.TheVariants.{RefreshOnly, RefreshAndPersist}
use Rattle.sync_messages.specs.declared.request.SyncRequest.{SyncRequest}
use Rattle.ldap_ber.specs.Gives.{Gives}
use Rattle.sync_messages.specs.Faults.{SyncFails}
use Rattle.sync_messages.specs.Parts.{CookieForm, FlagWithDefault, enumerated_at, cookie_at, flag_at, refresh_octets}
use Rattle.sync_messages.specs.Request.{mode_number, mode_of, IsMode, ModeForm, mode_at, request_parts, request_with, RequestForm, request_at, request_of, request_octets}
use Rattle.sync_messages.proofs.PartLemmas.{enumerated_exact, cookie_exact, flag_exact, LacksBoth, refresh_spelled, if_found, only_this}

-- ---- the mode

mode_there : (number : ℤ) (mode : Mode) → mode_of number ≡ Ok mode → IsMode number mode
mode_there number mode h = elim (chosen (int_eq number (pos 1)) _ _ _ h) [
  | inl s ↦ (Decides-int_eq number (pos 1)).0 s.0 ∙ ap mode_number (ok_is RefreshOnly mode s.1)
  | inr s ↦ elim (chosen (int_eq number (pos 3)) _ _ _ s.1) [
    | inl t ↦ (Decides-int_eq number (pos 3)).0 t.0 ∙ ap mode_number (ok_is RefreshAndPersist mode t.1)
    | inr t ↦ absurd (let e = t.1 in cc)
  ]
]

mode_back : (number : ℤ) (mode : Mode) → IsMode number mode → mode_of number ≡ Ok mode
mode_back number RefreshOnly h = rw h refl
mode_back number RefreshAndPersist h = rw h refl

mode_exact : Exact ModeForm mode_at
mode_exact = meaning_exact IsMode (λ at number. mode_of number) (Integer 10) enumerated_at (λ at. mode_there) (λ at. mode_back) enumerated_exact

mode_fits : (mode : Mode) → FitsSigned w64 (mode_number mode)
mode_fits RefreshOnly = omega arith
mode_fits RefreshAndPersist = omega arith

abbrev mode_octets : Mode → List ℕ
mode_octets mode = element 10 (integer_octets (mode_number mode))

mode_spelled : Spelled ModeForm mode_octets (Always {X = Mode}) Anything
mode_spelled = meaning_spelled IsMode (Integer 10) (λ number. element 10 (integer_octets number)) (FitsSigned w64) Anything mode_number (Always {X = Mode})
    (λ mode sound. (refl, mode_fits mode)) (integer_spelled 10 (omega arith))

-- ---- the value

request_exact : Exact RequestForm request_at
unfolding RequestForm
request_exact = made_exact request_parts request_with (Sequence 48 (Both ModeForm (Both CookieForm (FlagWithDefault false)))) (sequence_at Ber 48 (both_at mode_at (both_at cookie_at (flag_at false))))
    (λ x. refl) (λ y. refl) (sequence_exact Ber 48 _ _ (both_exact _ _ _ _ mode_exact (both_exact _ _ _ _ cookie_exact (flag_exact false))))

request_read : (bytes : List ℕ) (request : SyncRequest) → RequestForm bytes request [] → request_of bytes ≡ Ok request
unfolding request_of
request_read bytes request h = whole_only Ber RequestForm request_at request_exact bytes request h

-- bytes that were read spell the value
pub request_found : (result : Result SyncRequest SyncFault) (bytes : List ℕ) → Gives SyncFails (λ x. Ok x) result (request_of bytes) → IfOk result (λ request. RequestForm bytes request [])
unfolding request_of
request_found result bytes g = if_found RequestForm bytes result (request_of bytes) g (λ request h. whole_found Ber RequestForm request_at request_exact bytes request h)

-- bytes that spell a value are read as it
pub request_only : (result : Result SyncRequest SyncFault) (bytes : List ℕ) (request : SyncRequest) → Gives SyncFails (λ x. Ok x) result (request_of bytes) → RequestForm bytes request [] → Gives SyncFails (λ x. Ok x) result (Ok request)
request_only result bytes request g h = only_this result (request_of bytes) request g (request_read bytes request h)

abbrev body : Mode × (Option (List ℕ) × Bool) → List ℕ
body parts = mode_octets parts.0 ++ refresh_octets false parts.1

body_spelled : Spelled (Both ModeForm (Both CookieForm (FlagWithDefault false))) body (λ parts. Unit {0} × (Unit {0} × Unit {0})) LacksBoth
body_spelled = both_spelled ModeForm (Both CookieForm (FlagWithDefault false)) mode_octets (refresh_octets false) (Always {X = Mode}) (λ parts. Unit {0} × Unit {0}) Anything LacksBoth
    mode_spelled (refresh_spelled false) (λ parts rest sound after. tt)

canonical : (request : SyncRequest) → IsSmall (request_octets request) → RequestForm (request_octets request) request []
unfolding RequestForm request_octets
canonical request small =
    whole_spelled (MadeOf request_parts (Sequence 48 (Both ModeForm (Both CookieForm (FlagWithDefault false))))) (λ y. element 48 (body (request_parts y))) (λ y. Unit {0} × (Unit {0} × Unit {0})) Anything
    (made_spelled request_parts _ _ _ Anything (sequence_spelled 48 (Both ModeForm (Both CookieForm (FlagWithDefault false))) body _ _ (omega arith) body_spelled (none_next 1, none_next 4)))
    tt request (tt, (tt, tt)) small

-- the canonical octets of a value spell it
pub request_spelled : {E : Type 0} (result : Result (List ℕ) E) (request : SyncRequest) → IfOk result (λ o. o ≡ request_octets request) → IfOk result IsSmall → IfOk result (λ o. RequestForm o request [])
request_spelled result request is small = if_written result (request_octets request) (λ o. RequestForm o request []) is small (canonical request)

-- so they are read as it again
pub request_read_again : {E : Type 0} (result : Result (List ℕ) E) (request : SyncRequest) → IfOk result (λ o. o ≡ request_octets request) → IfOk result IsSmall → IfOk result (λ o. request_of o ≡ Ok request)
request_read_again result request is small = if_written result (request_octets request) (λ o. request_of o ≡ Ok request) is small (λ s. request_read (request_octets request) request (canonical request s))
