-- The canonical spelling of a message is one of its spellings.
use Rattle.std.proofs.Common.{◌≡◌, ℕ, ◌≤◌, List, [], ◌++◌, length, Result, ap, length-append, arith}
use Rattle.std.specs.Prelude.{IfOk}
use Rattle.ldap_ber.specs.Element.{Begins}
use Rattle.ldap_ber.specs.Form.{Both}
use Rattle.ldap_ber.specs.Canonical.{element}
use Rattle.ldap_ber.specs.Writer.{IsSmall}
use Rattle.ldap_ber.proofs.CanonicalLemmas.{Spelled, Anything, Always, Lacks, both_spelled, sequence_spelled, whole_spelled, if_written_soundly, none_next}
use Rattle.ldap_parts.specs.declared.control.Control.{Control}
use Rattle.ldap_parts.specs.Components.{RangeForm, number_octets}
use Rattle.ldap_parts.specs.Controls.{ControlsForm, controls_octets}
use Rattle.ldap_parts.proofs.ComponentLemmas.{range_spelled}
use Rattle.ldap_parts.proofs.ControlLemmas.{controls_spelled}
use Rattle.ldap_messages.specs.Operation.{Operation, OperationForm, operation_octets, IsHeld}
use Rattle.ldap_messages.specs.Whole.{MessageValue, MessageForm, message_octets, HasSpelling}
use Rattle.ldap_messages.specs.Frame.{read_of, message}
use Rattle.ldap_messages.proofs.FrameLemmas.{read_only}
use Rattle.ldap_messages.proofs.OperationSpellings.{IsSound, operation_spelled}

abbrev rest_octets : Operation × List Control → List ℕ
rest_octets parts = operation_octets parts.0 ++ controls_octets parts.1

abbrev body_octets : MessageValue → List ℕ
body_octets whole = number_octets 2 whole.0 ++ rest_octets whole.1

abbrev SoundBody : MessageValue → Type 0
SoundBody whole = ((0 ≤ whole.0) × (whole.0 ≤ 2147483647)) × (IsSound whole.1.0 × Unit {0})

rest_spelled : Spelled (Both OperationForm ControlsForm) rest_octets (λ p. IsSound p.0 × Unit {0}) (Lacks 160)
rest_spelled = both_spelled OperationForm ControlsForm operation_octets controls_octets IsSound (Always {X = List Control}) Anything (Lacks 160) operation_spelled controls_spelled (λ y rest sound after. tt)

body_spelled : Spelled (Both (RangeForm 0 2147483647 2) (Both OperationForm ControlsForm)) body_octets SoundBody (Lacks 160)
body_spelled = both_spelled (RangeForm 0 2147483647 2) (Both OperationForm ControlsForm) (number_octets 2) rest_octets (λ id. (0 ≤ id) × (id ≤ 2147483647)) (λ p. IsSound p.0 × Unit {0}) Anything (Lacks 160)
    (range_spelled 0 2147483647 2 (omega arith) (omega arith)) rest_spelled (λ y rest sound after. tt)

canonical : (whole : MessageValue) → HasSpelling whole → IsHeld whole.1.0 → IsSmall (message_octets whole) → MessageForm (message_octets whole) whole []
unfolding MessageForm message_octets
canonical whole has held small =
    whole_spelled MessageForm (λ x. element 48 (body_octets x)) SoundBody Anything
    (sequence_spelled 48 (Both (RangeForm 0 2147483647 2) (Both OperationForm ControlsForm)) body_octets SoundBody (Lacks 160) (omega arith) body_spelled (none_next 160))
    tt whole ((omega arith, has.0), ((has.1, held), tt)) small

-- what is written of a message spells it
pub message_spelled : {E : Type 0} (result : Result (List ℕ) E) (whole : MessageValue) → HasSpelling whole → IfOk result (λ o. o ≡ message_octets whole) → IfOk result IsSmall → IfOk result (λ o. IsHeld whole.1.0) → IfOk result (λ o. MessageForm o whole [])
message_spelled result whole has is small held = if_written_soundly result (message_octets whole) (IsHeld whole.1.0) (λ o. MessageForm o whole []) is small held (canonical whole has)

short_body : (bytes body : List ℕ) → Begins bytes 48 body [] → length bytes ≤ 4194304 → length body ≤ 4194304
short_body bytes body h le = omega (arith, ap (λ (x : List ℕ). length x) h.parts, length-append h.octets (body ++ []), length-append body [])

-- the canonical encoding of a message that is not too long is read again as the message, whatever
-- follows it
pub message_read_again : {E : Type 0} (result : Result (List ℕ) E) (whole : MessageValue) → HasSpelling whole → IfOk result (λ o. o ≡ message_octets whole) → IfOk result IsSmall → IfOk result (λ o. IsHeld whole.1.0)
    → IfOk result (λ o. length o ≤ 4194304 → (after : List ℕ) → read_of (o ++ after) ≡ message whole (length o))
message_read_again result whole has is small held =
    if_written_soundly result (message_octets whole) (IsHeld whole.1.0) (λ o. length o ≤ 4194304 → (after : List ℕ) → read_of (o ++ after) ≡ message whole (length o)) is small held
    (λ h s le after. read_only (message_octets whole) after whole (canonical whole has h s, λ body b. short_body (message_octets whole) body b le))
