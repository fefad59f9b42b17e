-- The value of the Sync Done control: its reading is exact, and its canonical spelling is a spelling.
use Rattle.std.proofs.Common.{◌≡◌, ℕ, false, List, [], Result, Ok, refl, arith}
use Rattle.std.specs.Prelude.{IfOk}
use Rattle.ldap_ber.specs.Form.{Both, MadeOf, Sequence}
use Rattle.ldap_ber.specs.Reading.{both_at, sequence_at}
use Rattle.ldap_ber.specs.Canonical.{element}
use Rattle.ldap_ber.specs.Writer.{IsSmall}
use Rattle.ldap_ber.proofs.ExactLemmas.{Exact, both_exact, sequence_exact, made_exact, whole_found, whole_only}
use Rattle.ldap_ber.proofs.CanonicalLemmas.{Anything, sequence_spelled, made_spelled, whole_spelled, if_written, none_next}
use Rattle.sync_messages.specs.declared.fault.SyncFault.{SyncFault}
use Rattle.sync_messages.specs.declared.fault.SyncFault.TheVariants.{Ber}
use Rattle.sync_messages.specs.declared.done.SyncDone.{SyncDone}
use Rattle.ldap_ber.specs.Gives.{Gives}
use Rattle.sync_messages.specs.Faults.{SyncFails}
use Rattle.sync_messages.specs.Parts.{CookieForm, FlagWithDefault, cookie_at, flag_at, refresh_octets}
use Rattle.sync_messages.specs.Done.{done_parts, done_with, DoneForm, done_at, done_of, done_octets}
use Rattle.sync_messages.proofs.PartLemmas.{cookie_exact, flag_exact, refresh_spelled, if_found, only_this}

done_exact : Exact DoneForm done_at
unfolding DoneForm
done_exact = made_exact done_parts done_with (Sequence 48 (Both CookieForm (FlagWithDefault false))) (sequence_at Ber 48 (both_at cookie_at (flag_at false)))
    (λ x. refl) (λ y. refl) (sequence_exact Ber 48 _ _ (both_exact _ _ _ _ cookie_exact (flag_exact false)))

done_read : (bytes : List ℕ) (done : SyncDone) → DoneForm bytes done [] → done_of bytes ≡ Ok done
unfolding done_of
done_read bytes done h = whole_only Ber DoneForm done_at done_exact bytes done h

-- bytes that were read spell the value
pub done_found : (result : Result SyncDone SyncFault) (bytes : List ℕ) → Gives SyncFails (λ x. Ok x) result (done_of bytes) → IfOk result (λ done. DoneForm bytes done [])
unfolding done_of
done_found result bytes g = if_found DoneForm bytes result (done_of bytes) g (λ done h. whole_found Ber DoneForm done_at done_exact bytes done h)

-- bytes that spell a value are read as it
pub done_only : (result : Result SyncDone SyncFault) (bytes : List ℕ) (done : SyncDone) → Gives SyncFails (λ x. Ok x) result (done_of bytes) → DoneForm bytes done [] → Gives SyncFails (λ x. Ok x) result (Ok done)
done_only result bytes done g h = only_this result (done_of bytes) done g (done_read bytes done h)

canonical : (done : SyncDone) → IsSmall (done_octets done) → DoneForm (done_octets done) done []
unfolding DoneForm done_octets
canonical done small =
    whole_spelled (MadeOf done_parts (Sequence 48 (Both CookieForm (FlagWithDefault false)))) (λ y. element 48 (refresh_octets false (done_parts y))) (λ y. Unit {0} × Unit {0}) Anything
    (made_spelled done_parts _ _ _ Anything (sequence_spelled 48 (Both CookieForm (FlagWithDefault false)) (refresh_octets false) _ _ (omega arith) (refresh_spelled false) (none_next 1, none_next 4)))
    tt done (tt, tt) small

-- the canonical octets of a value spell it
pub done_spelled : {E : Type 0} (result : Result (List ℕ) E) (done : SyncDone) → IfOk result (λ o. o ≡ done_octets done) → IfOk result IsSmall → IfOk result (λ o. DoneForm o done [])
done_spelled result done is small = if_written result (done_octets done) (λ o. DoneForm o done []) is small (canonical done)

-- what is written of a Sync Done value is read again as the value
pub done_read_again : {E : Type 0} (result : Result (List ℕ) E) (done : SyncDone) → IfOk result (λ o. o ≡ done_octets done) → IfOk result IsSmall → IfOk result (λ o. done_of o ≡ Ok done)
done_read_again result done is small = if_written result (done_octets done) (λ o. done_of o ≡ Ok done) is small (λ s. done_read (done_octets done) done (canonical done s))
