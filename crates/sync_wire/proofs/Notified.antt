-- What is sent is decoded, message by message.
use Rattle.std.proofs.Common.{◌≡◌, ℕ, Bool, true, false, ◌&&◌, if◌then◌else◌, List, [], ◌∷◌, Option, None, Some, Result, Ok, Err, ap, ◌∙◌, refl}
use Rattle.std.proofs.Math.Bool.{and-false}
use Rattle.schema_rules.specs.declared.raw.RawAttribute.{RawAttribute}
use Rattle.schema_rules.specs.declared.raw.Change.TheVariants as change
use Rattle.dn_names.specs.Writing.{name_text}
use Rattle.entry_tree.specs.declared.entry.Entry.{Entry}
use Rattle.ldap_parts.specs.declared.control.Control.{Control}
use Rattle.ldap_messages.specs.declared.protocol.Protocol.{Protocol}
use Rattle.ldap_messages.specs.declared.protocol.Protocol.TheVariants as op
use Rattle.ldap_messages.specs.Operation.{Operation, operation_of}
use Rattle.ldap_messages.specs.Operation as operation
use Rattle.ldap_messages.specs.Whole.{MessageValue}
use Rattle.sync_messages.specs.declared.info.SyncInfo.{SyncInfo}
use Rattle.sync_messages.specs.declared.info.SyncInfo.TheVariants as info
use Rattle.sync_messages.specs.declared.state.State.{State}
use Rattle.sync_messages.specs.declared.state.State.TheVariants as state
use Rattle.sync_messages.specs.Info.{info_octets}
use Rattle.sync_model.specs.Message.{CookieText, SyncMessage}
use Rattle.sync_model.specs.Message.SyncMessage.{AddOrModify, Delete, Present, IdSet, NewCookie, RefreshDelete, RefreshPresent, Done, Ignored}
use Rattle.sync_wire.specs.declared.fault.DecodeFault.{DecodeFault}
use Rattle.sync_wire.specs.declared.fault.DecodeFault.TheVariants.{OutOfPlace}
use Rattle.sync_wire.specs.Refusals.{and_then, on_ok}
use Rattle.sync_wire.specs.Values.{sync_state, sync_done, or_refused}
use Rattle.sync_wire.specs.WireEntry.{checked_uuid}
use Rattle.sync_wire.specs.Sending.{state_control, kind_of, attributes_of, info_name, parts_of}
use Rattle.sync_wire.specs.Decoding.{is_present, contents, entry_said, info_said, response_said, control_said, operation_said}
use Rattle.sync_wire.specs.CanBeSent.{CanBeSent}
use Rattle.sync_wire.specs.Law.{IsIdentity, IsShort, CanBeDecoded, SentIsDecoded}
use Rattle.sync_wire.proofs.OperationalAttributes.{uuid_agrees, entry_agrees}
use Rattle.sync_wire.proofs.Sizes.{IsMedium, state_again, done_again, info_again}

-- ---- what an operation says depends on what it is alone, and not on where it lies in memory

abbrev says : Bool → List Control → Operation → Result SyncMessage DecodeFault
says persisting controls (operation.entry parts) = and_then (sync_state controls) (entry_said persisting parts.0 parts.1)
says persisting controls (operation.search_done result) = on_ok (λ control. Done result.code (control_said control)) (sync_done controls)
says persisting controls (operation.reference uris) = Ok Ignored
says persisting controls (operation.intermediate parts) = response_said parts.0 parts.1
says persisting controls (operation.bind parts) = Err OutOfPlace
says persisting controls (operation.unbind parts) = Err OutOfPlace
says persisting controls (operation.search parts) = Err OutOfPlace
says persisting controls (operation.modify parts) = Err OutOfPlace
says persisting controls (operation.add parts) = Err OutOfPlace
says persisting controls (operation.delete parts) = Err OutOfPlace
says persisting controls (operation.rename parts) = Err OutOfPlace
says persisting controls (operation.compare parts) = Err OutOfPlace
says persisting controls (operation.abandon parts) = Err OutOfPlace
says persisting controls (operation.extended parts) = Err OutOfPlace
says persisting controls (operation.bind_response parts) = Err OutOfPlace
says persisting controls (operation.modify_response parts) = Err OutOfPlace
says persisting controls (operation.add_response parts) = Err OutOfPlace
says persisting controls (operation.delete_response parts) = Err OutOfPlace
says persisting controls (operation.rename_response parts) = Err OutOfPlace
says persisting controls (operation.compare_response parts) = Err OutOfPlace
says persisting controls (operation.extended_response parts) = Err OutOfPlace

says_so : (persisting : Bool) (controls : List Control) (protocol : Protocol) → operation_said persisting controls protocol ≡ says persisting controls (operation_of protocol)
unfolding operation_of
says_so persisting controls (op.SearchResultEntry name raws) = refl
says_so persisting controls (op.SearchResultReference uris) = refl
says_so persisting controls (op.IntermediateResponse name value) = refl
says_so persisting controls (op.SearchResultDone result) = refl
says_so persisting controls (op.BindRequest version name authentication) = refl
says_so persisting controls (op.BindResponse result sasl) = refl
says_so persisting controls op.UnbindRequest = refl
says_so persisting controls (op.SearchRequest asked) = refl
says_so persisting controls (op.Write (change.Add name attributes)) = refl
says_so persisting controls (op.Write (change.Delete name)) = refl
says_so persisting controls (op.Write (change.Modify name edits)) = refl
says_so persisting controls (op.Write (change.Rename name rdn deletes superior)) = refl
says_so persisting controls (op.ModifyResponse result) = refl
says_so persisting controls (op.AddResponse result) = refl
says_so persisting controls (op.DelResponse result) = refl
says_so persisting controls (op.ModifyDnResponse result) = refl
says_so persisting controls (op.CompareRequest entry name value) = refl
says_so persisting controls (op.CompareResponse result) = refl
says_so persisting controls (op.AbandonRequest id) = refl
says_so persisting controls (op.ExtendedRequest name value) = refl
says_so persisting controls (op.ExtendedResponse result name value) = refl

-- ---- entries

state_said : (kind : State) (uuid : ℕ) (cookie : Option CookieText) → IsIdentity uuid → IsShort cookie
    → sync_state (state_control kind uuid cookie ∷ []) ≡ Ok (record { state = kind; uuid = uuid; cookie = cookie })
state_said kind uuid cookie identity short = ap or_refused (state_again kind uuid cookie identity short)

-- an entry that its refresh or its persist stage may name
in_place : (persisting : Bool) (kind : State) (uuid : ℕ) (cookie : Option CookieText) (name : List ℕ) → (persisting && is_present kind) ≡ false
    → (raws : List RawAttribute) → entry_said persisting name raws (record { state = kind; uuid = uuid; cookie = cookie })
    ≡ and_then (checked_uuid uuid raws) (λ checked. contents kind uuid cookie name raws)
in_place persisting kind uuid cookie name placed raws = ap (λ b. if b then Err OutOfPlace else and_then (checked_uuid uuid raws) (λ checked. contents kind uuid cookie name raws)) placed

added_or_modified : (adds : Bool) → is_present (kind_of adds) ≡ false
added_or_modified true = refl
added_or_modified false = refl

put_contents : (adds : Bool) (e : Entry) (cookie : Option CookieText) → CanBeSent e
    → contents (kind_of adds) e.uuid cookie (name_text e.dn) (attributes_of e) ≡ Ok (AddOrModify adds e cookie)
put_contents true e cookie can = ap (on_ok (λ entry. AddOrModify true entry cookie)) (entry_agrees e can)
put_contents false e cookie can = ap (on_ok (λ entry. AddOrModify false entry cookie)) (entry_agrees e can)

put_said : (persisting adds : Bool) (e : Entry) (cookie : Option CookieText) → CanBeSent e
    → entry_said persisting (name_text e.dn) (attributes_of e) (record { state = kind_of adds; uuid = e.uuid; cookie = cookie }) ≡ Ok (AddOrModify adds e cookie)
put_said persisting adds e cookie can =
    in_place persisting (kind_of adds) e.uuid cookie (name_text e.dn) (ap (λ b. persisting && b) (added_or_modified adds) ∙ and-false persisting) (attributes_of e)
    ∙ ap (λ checked. and_then checked (λ nothing. contents (kind_of adds) e.uuid cookie (name_text e.dn) (attributes_of e))) (uuid_agrees e can)
    ∙ put_contents adds e cookie can

-- ---- Sync Info messages

notified_by_info : (value : SyncInfo) → IsMedium value → response_said (Some info_name) (Some (info_octets value)) ≡ Ok (info_said value)
notified_by_info value h = ap (λ read. on_ok info_said (or_refused read)) (info_again value h)

-- ---- each message

abbrev decoded_from : Bool → Operation × List Control → Result SyncMessage DecodeFault
decoded_from persisting parts = says persisting parts.1 parts.0

each_decoded : (persisting : Bool) (event : SyncMessage) → CanBeDecoded persisting event → decoded_from persisting (parts_of event) ≡ Ok event
each_decoded persisting (AddOrModify adds e cookie) can =
    ap (λ read. and_then read (entry_said persisting (name_text e.dn) (attributes_of e))) (state_said (kind_of adds) e.uuid cookie can.0.identity can.1)
    ∙ put_said persisting adds e cookie can.0
each_decoded persisting (Delete uuid name cookie) can =
    ap (λ read. and_then read (entry_said persisting name [])) (state_said state.Delete uuid cookie can.0 can.1)
    ∙ in_place persisting state.Delete uuid cookie name (and-false persisting) []
each_decoded persisting (Present uuid cookie) can =
    ap (λ read. and_then read (entry_said persisting [] [])) (state_said state.Present uuid cookie can.1 can.2)
    ∙ in_place persisting state.Present uuid cookie [] (ap (λ b. b && true) can.0) []
each_decoded persisting (IdSet deletes uuids cookie) can = notified_by_info (info.IdSet cookie deletes uuids) can
each_decoded persisting (NewCookie cookie) can = notified_by_info (info.NewCookie cookie) can
each_decoded persisting (RefreshDelete done cookie) can = notified_by_info (info.RefreshDelete cookie done) can
each_decoded persisting (RefreshPresent done cookie) can = notified_by_info (info.RefreshPresent cookie done) can
each_decoded persisting (Done code None) can = refl
each_decoded persisting (Done code (Some control)) can =
    ap (λ read. on_ok (λ o. Done code (control_said o)) (on_ok (λ done. Some done) (or_refused read))) (done_again control.0 control.1 can)
each_decoded persisting Ignored can = refl

-- a message that is sent for a message of a search means that message again
pub sent_round_trip : SentIsDecoded
sent_round_trip persisting id event message can same =
    says_so persisting message.controls message.op ∙ ap (λ (whole : MessageValue). decoded_from persisting whole.1) same ∙ each_decoded persisting event can
