-- Ends of a refresh that come without a cookie, and what a copy makes of all other messages.
use Rattle.std.proofs.Common.{◌≡◌, ℕ, Bool, true, false, cond, Option, Some, None, List, [], ◌∷◌, refl, ap, sym, subst, ◌∙◌}
use Rattle.std.specs.Prelude.{ℤ, Result, Ok, Err, pos, not, ◌&&◌, ◌||◌, ◌==◌, is_none}
use Rattle.std.specs.Ordering.{int_eq}
use Rattle.ldap_constants.specs.declared.result_codes.TheConstants.{SUCCESS}
use Rattle.ldap_messages.specs.declared.message.Message.{Message}
use Rattle.ldap_messages.specs.declared.protocol.Protocol.TheVariants as op
use Rattle.ldap_messages.specs.Operation.{Operation}
use Rattle.ldap_messages.specs.Operation.{Operation as operation}
use Rattle.ldap_messages.specs.Whole.{MessageValue, message_value}
use Rattle.ldap_parts.specs.declared.control.Control.{Control}
use Rattle.schema_rules.specs.declared.raw.RawAttribute.{RawAttribute}
use Rattle.sync_messages.specs.declared.state.State.{State}
use Rattle.sync_messages.specs.declared.state.State.TheVariants as state
use Rattle.sync_messages.specs.declared.state.SyncState.{SyncState}
use Rattle.sync_model.specs.Message.{CookieText, SyncMessage}
use Rattle.sync_model.specs.Message.SyncMessage.{AddOrModify, Delete, Present, IdSet, NewCookie, RefreshDelete, RefreshPresent, Done, Ignored}
use Rattle.sync_model.specs.Copy.{Copy, SyncSession, staged, all_dropped, refused, with_cookie, refreshed, over, taken_names, ends_phase, taken_done, taken_in, taken_by, taken}
use Rattle.sync_model.specs.Copy.Fault.{OutOfPlace}
use Rattle.sync_model.specs.Within.{puts_entry, limit_fault, taken_within}
use Rattle.sync_model.proofs.WithoutCookie.{Agrees, either_agrees, with_cookie_agrees, names_agree, refreshed_agrees, info_agrees, limits_agree}
use Rattle.sync_wire.specs.Decoding as wire
use Rattle.sync_wire.specs.Refusals.{and_then, on_ok, DecodeFails}
use Rattle.sync_wire.specs.Values.{sync_state}
use Rattle.sync_wire.specs.WireEntry.{checked_uuid, entry_of}
use Rattle.sync_wire.specs.declared.fault.DecodeFault.{DecodeFault}
use Rattle.sync_wire.specs.declared.fault.DecodeFault.TheVariants as decoding
use Rattle.sync_wire.specs.declared.decoding.SyncEvent.{SyncEvent}
use Rattle.sync_consumer.specs.SyncSession.{message_of}
use Rattle.cascade_exchange.specs.Reception.{operation_said, whole_said, has_no_cookie, ends_without_cookie, says_end_without_cookie}
use Rattle.cascade_exchange.proofs.Decoding.{message_said}

-- ---- an entry ends nothing

then_no_end : {X : Type 0} (first : Result X DecodeFault) (next : X → Result SyncMessage DecodeFault) → ((x : X) → says_end_without_cookie (next x) ≡ false) → says_end_without_cookie (and_then first next) ≡ false
then_no_end (Ok x) next ends_nothing = ends_nothing x
then_no_end (Err found) next ends_nothing = refl

ok_no_end : {X : Type 0} (f : X → SyncMessage) (first : Result X DecodeFault) → ((x : X) → ends_without_cookie (f x) ≡ false) → says_end_without_cookie (on_ok f first) ≡ false
ok_no_end f (Ok x) ends_nothing = ends_nothing x
ok_no_end f (Err found) ends_nothing = refl

if_no_end : (b : Bool) (one other : Result SyncMessage DecodeFault) → says_end_without_cookie one ≡ false → says_end_without_cookie other ≡ false → says_end_without_cookie (cond b one other) ≡ false
if_no_end true one other h k = h
if_no_end false one other h k = k

contents_no_end : (s : State) (uuid : ℕ) (cookie : Option CookieText) (name : List ℕ) (raws : List RawAttribute) → says_end_without_cookie (wire.contents s uuid cookie name raws) ≡ false
contents_no_end state.Present uuid cookie name raws = refl
contents_no_end state.Add uuid cookie name raws = ok_no_end (λ entry. AddOrModify true entry cookie) (entry_of uuid name raws) (λ entry. refl)
contents_no_end state.Modify uuid cookie name raws = ok_no_end (λ entry. AddOrModify false entry cookie) (entry_of uuid name raws) (λ entry. refl)
contents_no_end state.Delete uuid cookie name raws = refl

said_no_end : (persisting : Bool) (name : List ℕ) (raws : List RawAttribute) (sync : SyncState) → says_end_without_cookie (wire.entry_said persisting name raws sync) ≡ false
said_no_end persisting name raws sync =
    let rest : Unit {0} → Result SyncMessage DecodeFault = λ checked. wire.contents sync.state sync.uuid sync.cookie name raws in
    if_no_end (persisting && wire.is_present sync.state) (Err decoding.OutOfPlace) (and_then (checked_uuid sync.uuid raws) rest) refl
    (then_no_end (checked_uuid sync.uuid raws) rest (λ checked. contents_no_end sync.state sync.uuid sync.cookie name raws))

by_entry : (persisting : Bool) (controls : List Control) (name : List ℕ) (raws : List RawAttribute) → says_end_without_cookie (and_then (sync_state controls) (wire.entry_said persisting name raws)) ≡ false
by_entry persisting controls name raws = then_no_end (sync_state controls) (wire.entry_said persisting name raws) (said_no_end persisting name raws)

-- an entry is no end of a refresh, and so none without a cookie
pub entry_no_end : (m : Message) (name : List ℕ) (raws : List RawAttribute) → m.op ≡ op.SearchResultEntry name raws → says_end_without_cookie (whole_said false (message_value m)) ≡ false
entry_no_end m name raws is =
    ap says_end_without_cookie (message_said false m) ∙ ap (λ o. says_end_without_cookie (wire.operation_said false m.controls o)) is ∙ by_entry false m.controls name raws

-- whether its refresh is done is nothing to an end
op_same_end : (persisting : Bool) (controls : List Control) (o : Operation) → says_end_without_cookie (operation_said persisting controls o) ≡ says_end_without_cookie (operation_said false controls o)
op_same_end persisting controls (operation.entry parts) = by_entry persisting controls parts.0 parts.1 ∙ sym (by_entry false controls parts.0 parts.1)
op_same_end persisting controls (operation.reference parts) = refl
op_same_end persisting controls (operation.intermediate parts) = refl
op_same_end persisting controls (operation.search_done parts) = refl
op_same_end persisting controls (operation.bind parts) = refl
op_same_end persisting controls (operation.unbind parts) = refl
op_same_end persisting controls (operation.search parts) = refl
op_same_end persisting controls (operation.modify parts) = refl
op_same_end persisting controls (operation.add parts) = refl
op_same_end persisting controls (operation.delete parts) = refl
op_same_end persisting controls (operation.rename parts) = refl
op_same_end persisting controls (operation.compare parts) = refl
op_same_end persisting controls (operation.abandon parts) = refl
op_same_end persisting controls (operation.extended parts) = refl
op_same_end persisting controls (operation.bind_response parts) = refl
op_same_end persisting controls (operation.modify_response parts) = refl
op_same_end persisting controls (operation.add_response parts) = refl
op_same_end persisting controls (operation.delete_response parts) = refl
op_same_end persisting controls (operation.rename_response parts) = refl
op_same_end persisting controls (operation.compare_response parts) = refl
op_same_end persisting controls (operation.extended_response parts) = refl

-- whether a message is an end without a cookie does not depend on the phase of the search
pub whole_same_end : (persisting : Bool) (whole : MessageValue) → says_end_without_cookie (whole_said persisting whole) ≡ says_end_without_cookie (whole_said false whole)
whole_same_end persisting whole = op_same_end persisting whole.1.1 whole.1.0

-- ---- by what is decoded

done_kept : (code : ℤ) (control : Option (Bool × Option CookieText)) → ends_without_cookie (Done code control) ≡ ends_without_cookie (message_of (wire.decoded_of (Done code control)))
done_kept code None = refl
done_kept code (Some control) = refl

same_end : (message : SyncMessage) → ends_without_cookie message ≡ ends_without_cookie (message_of (wire.decoded_of message))
same_end (AddOrModify adds entry cookie) = refl
same_end (Delete uuid name cookie) = refl
same_end (Present uuid cookie) = refl
same_end (IdSet deletes uuids cookie) = refl
same_end (NewCookie cookie) = refl
same_end (RefreshDelete done cookie) = refl
same_end (RefreshPresent done cookie) = refl
same_end (Done code control) = done_kept code control
same_end Ignored = refl

by_decoded : (said : Result SyncMessage DecodeFault) (received : SyncEvent) → on_ok wire.decoded_of said ≡ Ok received → says_end_without_cookie said ≡ ends_without_cookie (message_of received)
by_decoded (Ok message) received is = let same : wire.decoded_of message ≡ received = cc in same_end message ∙ ap (λ (h : SyncEvent). ends_without_cookie (message_of h)) same
by_decoded (Err found) received is = let never : ⊥ = cc in absurd never

-- a message that is decoded is an end without a cookie exactly where its event is one
pub decoded_same_end : (m : Message) (received : SyncEvent) → on_ok wire.decoded_of (wire.said false m) ≡ Ok received → says_end_without_cookie (whole_said false (message_value m)) ≡ ends_without_cookie (message_of received)
decoded_same_end m received is = ap says_end_without_cookie (message_said false m) ∙ by_decoded (wire.said false m) received is

by_failed : (said : Result SyncMessage DecodeFault) (found : DecodeFault) → on_ok wire.decoded_of said ≡ Err found → says_end_without_cookie said ≡ false
by_failed (Ok message) found is = let never : ⊥ = cc in absurd never
by_failed (Err other) found is = refl

-- a message that is refused is no such end
pub failed_no_end : (m : Message) (found : DecodeFault) → on_ok wire.decoded_of (wire.said false m) ≡ Err found → says_end_without_cookie (whole_said false (message_value m)) ≡ false
failed_no_end m found is = ap says_end_without_cookie (message_said false m) ∙ by_failed (wire.said false m) found is

-- the same of two of the faults
pub value_no_end : (m : Message) (found : DecodeFault) → found ≡ decoding.BadValue → DecodeFails found (on_ok wire.decoded_of (wire.said false m)) → says_end_without_cookie (whole_said false (message_value m)) ≡ false
value_no_end m found is fails = failed_no_end m decoding.BadValue (subst (λ f. DecodeFails f (on_ok wire.decoded_of (wire.said false m))) is fails)

-- nor is one that is refused for its entryUUID
pub uuid_no_end : (m : Message) (found : DecodeFault) (one other : ℕ) → found ≡ decoding.UuidDiffers one other → DecodeFails found (on_ok wire.decoded_of (wire.said false m)) → says_end_without_cookie (whole_said false (message_value m)) ≡ false
uuid_no_end m found one other is fails = failed_no_end m (decoding.UuidDiffers one other) (subst (λ f. DecodeFails f (on_ok wire.decoded_of (wire.said false m))) is fails)

-- ---- what a copy makes of it

done_agrees : (copy : Copy) (session : SyncSession) (control : Option (Bool × Option CookieText)) (b : Bool) → b ≡ true → Agrees (has_no_cookie control && b) (taken_done copy session control).1
done_agrees copy session None b is = tt
done_agrees copy session (Some control) b is =
    let now : SyncSession = ends_phase copy.held session control.0 in
    either_agrees (is_none control.1 && b) (not control.0 && session.ended) (refused copy OutOfPlace) (refreshed copy now control.1 None) tt (refreshed_agrees copy now control.1 None b is)

in_agrees : (copy : Copy) (session : SyncSession) (message : SyncMessage) → Agrees (ends_without_cookie message) (taken_in copy session message).1
in_agrees copy session (AddOrModify adds entry cookie) = with_cookie_agrees copy (record session { stage = staged entry.uuid (Some entry) session.stage }) cookie
in_agrees copy session (Delete uuid name cookie) = with_cookie_agrees copy (record session { stage = staged uuid None session.stage }) cookie
in_agrees copy session (Present uuid cookie) = names_agree copy session (uuid ∷ [])
in_agrees copy session (IdSet deletes uuids cookie) =
    let dropped : SyncSession = record session { stage = all_dropped session.stage uuids } in
    either_agrees false deletes (with_cookie copy dropped cookie) (taken_names copy session uuids) (with_cookie_agrees copy dropped cookie) (names_agree copy session uuids)
in_agrees copy session (NewCookie cookie) = with_cookie_agrees copy session (Some cookie)
in_agrees copy session (RefreshDelete done cookie) = info_agrees copy session true done cookie
in_agrees copy session (RefreshPresent done cookie) = info_agrees copy session false done cookie
in_agrees copy session (Done code control) = by session.persists (int_eq code (pos SUCCESS)) refl
  where
    by : (persists zero : Bool) → int_eq code (pos SUCCESS) ≡ zero → Agrees (has_no_cookie control && int_eq code (pos SUCCESS)) (cond (persists || not zero) (over copy code) (taken_done copy session control)).1
    by true zero is = tt
    by false true is = done_agrees copy session control (int_eq code (pos SUCCESS)) is
    by false false is = tt
in_agrees copy session Ignored = refl

by_agrees : (search : Option SyncSession) (id : ℕ) (copy : Copy) (message : SyncMessage) → Agrees (ends_without_cookie message) (taken_by search id copy message).1
by_agrees None id copy message = tt
by_agrees (Some session) id copy message =
    either_agrees (ends_without_cookie message) (id == session.id) (taken_in copy session message) (refused copy OutOfPlace) (in_agrees copy session message) tt

-- what comes of a message says whether it ends a refresh without a cookie
pub ending_answer : (id : ℕ) (copy : Copy) (message : SyncMessage) → Agrees (ends_without_cookie message) (taken_within id copy message).1
ending_answer id copy message =
    limits_agree (ends_without_cookie message) copy (limit_fault (puts_entry message) (taken id copy message).0 (taken id copy message).1) (taken id copy message) (by_agrees copy.session id copy message)
