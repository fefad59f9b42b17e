-- A proper prefix of a spelling is refused at its first octet.
use Rattle.std.proofs.Common.{◌≡◌, ◌≢◌, ℕ, Bool, true, false, cond, List, [], ◌++◌, length, Result, Err, refl, ap, ◌∙◌, arith}
use Rattle.ldap_ber.specs.declared.fault.BerFault.{BerFault}
use Rattle.ldap_ber.specs.declared.fault.BerKind.TheVariants.{Short}
use Rattle.ldap_ber.specs.Element.{Begins}
use Rattle.ldap_ber.specs.Reader.{fault, has_tag}
use Rattle.ldap_ber.specs.Reading.{both_at}
use Rattle.ldap_ber.proofs.CutLemmas.{octets_cut, sequence_cut}
use Rattle.sync_messages.specs.declared.fault.SyncFault.{SyncFault}
use Rattle.sync_messages.specs.declared.fault.SyncFault.TheVariants.{Ber}
use Rattle.sync_messages.specs.declared.request.SyncRequest.{SyncRequest}
use Rattle.sync_messages.specs.declared.state.SyncState.{SyncState}
use Rattle.sync_messages.specs.declared.done.SyncDone.{SyncDone}
use Rattle.sync_messages.specs.declared.info.SyncInfo.{SyncInfo}
use Rattle.sync_messages.specs.declared.info.SyncInfo.TheVariants.{NewCookie, RefreshDelete, RefreshPresent, IdSet}
use Rattle.sync_messages.specs.Parts.{cookie_at, flag_at, uuid_at}
use Rattle.sync_messages.specs.Request.{mode_at, RequestForm, request_of}
use Rattle.sync_messages.specs.State.{kind_at, StateForm, state_of}
use Rattle.sync_messages.specs.Done.{DoneForm, done_of}
use Rattle.sync_messages.specs.Info.{uuids_at, InfoForm, info_at, info_of}

abbrev short_at : ℕ → BerFault
short_at place = record { kind = Short; at = place }

-- the place is the first
at_prefix : {X : Type 0} (prefix : List ℕ) (read : Result X SyncFault) → read ≡ Err (Ber (fault Short (length prefix) prefix)) → read ≡ Err (Ber (short_at 0))
at_prefix prefix read h = h ∙ ap (λ (place : ℕ). Err (Ber (short_at place))) (omega arith)

-- of the value of a Sync Request control
pub request_cut : (prefix more : List ℕ) (request : SyncRequest) → RequestForm (prefix ++ more) request [] → more ≢ [] → request_of prefix ≡ Err (Ber (short_at 0))
unfolding RequestForm request_of
request_cut prefix more request h some =
    at_prefix prefix _ (rw (sequence_cut Ber 48 48 (both_at mode_at (both_at cookie_at (flag_at false))) (length prefix) prefix more h.0 h.2 some) refl)

-- of the value of a Sync State control
pub state_cut : (prefix more : List ℕ) (state : SyncState) → StateForm (prefix ++ more) state [] → more ≢ [] → state_of prefix ≡ Err (Ber (short_at 0))
unfolding StateForm state_of
state_cut prefix more state h some =
    at_prefix prefix _ (rw (sequence_cut Ber 48 48 (both_at kind_at (both_at uuid_at cookie_at)) (length prefix) prefix more h.0 h.2 some) refl)

-- of the value of a Sync Done control
pub done_cut : (prefix more : List ℕ) (done : SyncDone) → DoneForm (prefix ++ more) done [] → more ≢ [] → done_of prefix ≡ Err (Ber (short_at 0))
unfolding DoneForm done_of
done_cut prefix more done h some =
    at_prefix prefix _ (rw (sequence_cut Ber 48 48 (both_at cookie_at (flag_at false)) (length prefix) prefix more h.0 h.2 some) refl)

-- ---- a choice

either_way : {A : Type 0} (test : Bool) (x y z : A) → x ≡ z → y ≡ z → cond test x y ≡ z
either_way true x y z p q = p
either_way false x y z p q = q

choice_cut : (tag stop : ℕ) (prefix more body : List ℕ) → Begins (prefix ++ more) tag body [] → more ≢ [] → info_at stop prefix ≡ Err (Ber (fault Short stop prefix))
choice_cut tag stop prefix more body h some =
    either_way (has_tag 128 prefix) _ _ _ (rw (octets_cut Ber 128 tag stop prefix more body h some) refl)
    (either_way (has_tag 161 prefix) _ _ _ (rw (sequence_cut Ber 161 tag (both_at cookie_at (flag_at true)) stop prefix more body h some) refl)
    (either_way (has_tag 162 prefix) _ _ _ (rw (sequence_cut Ber 162 tag (both_at cookie_at (flag_at true)) stop prefix more body h some) refl)
    (rw (sequence_cut Ber 163 tag (both_at cookie_at (both_at (flag_at false) uuids_at)) stop prefix more body h some) refl)))

begun : (bytes : List ℕ) (info : SyncInfo) → InfoForm bytes info [] → (tag : ℕ) × (body : List ℕ) × Begins bytes tag body []
unfolding InfoForm
begun bytes (NewCookie c) h = (128, c, h)
begun bytes (RefreshDelete c b) h = (161, h.0, h.2)
begun bytes (RefreshPresent c b) h = (162, h.0, h.2)
begun bytes (IdSet c b ids) h = (163, h.0, h.2)

-- of the value of a Sync Info message
pub info_cut : (prefix more : List ℕ) (info : SyncInfo) → InfoForm (prefix ++ more) info [] → more ≢ [] → info_of prefix ≡ Err (Ber (short_at 0))
unfolding info_of
info_cut prefix more info h some =
    let b = begun (prefix ++ more) info h in
    at_prefix prefix _ (rw (choice_cut b.0 (length prefix) prefix more b.1 b.2 some) refl)
