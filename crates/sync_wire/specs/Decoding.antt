-- What a message says to a search that runs (RFC 4533, sections 2.3 to 2.5 and 3.3 to 3.4).
use Rattle.std.specs.Prelude.{ℕ, Bool, true, false, ◌&&◌, if◌then◌else◌, List, bytes_eq, Option, Some, None, Result, Ok, Err}
use Rattle.ldap_constants.specs.declared.object_identifiers.TheConstants.{SYNC_INFO}
use Rattle.schema_rules.specs.declared.raw.RawAttribute.{RawAttribute}
use Rattle.ldap_parts.specs.declared.control.Control.{Control}
use Rattle.ldap_messages.specs.declared.message.Message.{Message}
use Rattle.ldap_messages.specs.declared.protocol.Protocol.{Protocol}
use Rattle.ldap_messages.specs.declared.protocol.Protocol.TheVariants as op
use Rattle.sync_messages.specs.declared.done.SyncDone.{SyncDone}
use Rattle.sync_messages.specs.declared.info.SyncInfo.{SyncInfo}
use Rattle.sync_messages.specs.declared.info.SyncInfo.TheVariants as info
use Rattle.sync_messages.specs.declared.state.State.{State}
use Rattle.sync_messages.specs.declared.state.State.TheVariants as state
use Rattle.sync_messages.specs.declared.state.SyncState.{SyncState}
use Rattle.sync_model.specs.Message.{CookieText, SyncMessage}
use Rattle.sync_model.specs.Message.SyncMessage.{AddOrModify, Delete, Present, IdSet, NewCookie, RefreshDelete, RefreshPresent, Done, Ignored}
use Rattle.sync_wire.specs.declared.fault.DecodeFault.{DecodeFault}
use Rattle.sync_wire.specs.declared.fault.DecodeFault.TheVariants.{OutOfPlace}
use Rattle.sync_wire.specs.declared.decoding.SyncEvent.{SyncEvent}
use Rattle.sync_wire.specs.declared.decoding.SyncEvent.TheVariants as decoded
use Rattle.sync_wire.specs.Refusals.{and_then, on_ok}
use Rattle.sync_wire.specs.Values.{sync_state, sync_done, sync_info}
use Rattle.sync_wire.specs.WireEntry.{checked_uuid, entry_of}

-- ---- entries

abbrev pub is_present : State → Bool
is_present state.Present = true
is_present state.Add = false
is_present state.Modify = false
is_present state.Delete = false

-- the contents of an entry, by its state: they count where it is added or modified
abbrev pub contents :
    State → ℕ → Option CookieText → List ℕ → List RawAttribute → Result SyncMessage DecodeFault
contents state.Present uuid cookie name raws = Ok (Present uuid cookie)
contents state.Add uuid cookie name raws =
    on_ok (λ entry. AddOrModify true entry cookie) (entry_of uuid name raws)
contents state.Modify uuid cookie name raws =
    on_ok (λ entry. AddOrModify false entry cookie) (entry_of uuid name raws)
contents state.Delete uuid cookie name raws = Ok (Delete uuid name cookie)

-- after its refresh a search names no entry as present, whatever else rejects the entry
abbrev pub entry_said :
    (persisting : Bool) → List ℕ → List RawAttribute → SyncState → Result SyncMessage DecodeFault
entry_said persisting name raws sync =
    if persisting && is_present sync.state then Err OutOfPlace else
    and_then (checked_uuid sync.uuid raws)
    (λ checked. contents sync.state sync.uuid sync.cookie name raws)

-- ---- intermediate responses

abbrev pub info_said : SyncInfo → SyncMessage
info_said (info.NewCookie cookie) = NewCookie cookie
info_said (info.RefreshDelete cookie done) = RefreshDelete done cookie
info_said (info.RefreshPresent cookie done) = RefreshPresent done cookie
info_said (info.IdSet cookie deletes uuids) = IdSet deletes uuids cookie

abbrev pub is_sync_info : Option (List ℕ) → Bool
is_sync_info None = false
is_sync_info (Some name) = bytes_eq name SYNC_INFO.now

abbrev pub response_said : Option (List ℕ) → Option (List ℕ) → Result SyncMessage DecodeFault
response_said name value =
    if is_sync_info name then on_ok info_said (sync_info value) else Ok Ignored

-- ---- the end

abbrev pub control_said : Option SyncDone → Option (Bool × Option CookieText)
control_said None = None
control_said (Some done) = Some (done.refresh_deletes, done.cookie)

-- ---- each operation

-- what the operation says with these controls, or the first that rejects it: that it does not
-- belong to a search, or to this part of one, then a value outside its grammar, then what
-- rejects an entry
abbrev pub operation_said :
    (persisting : Bool) → List Control → Protocol → Result SyncMessage DecodeFault
operation_said persisting controls (op.SearchResultEntry name raws) =
    and_then (sync_state controls) (entry_said persisting name raws)
operation_said persisting controls (op.SearchResultReference uris) = Ok Ignored
operation_said persisting controls (op.IntermediateResponse name value) = response_said name value
operation_said persisting controls (op.SearchResultDone result) =
    on_ok (λ control. Done result.code (control_said control)) (sync_done controls)
operation_said persisting controls (op.BindRequest version name authentication) = Err OutOfPlace
operation_said persisting controls (op.BindResponse result sasl) = Err OutOfPlace
operation_said persisting controls op.UnbindRequest = Err OutOfPlace
operation_said persisting controls (op.SearchRequest asked) = Err OutOfPlace
operation_said persisting controls (op.Write change) = Err OutOfPlace
operation_said persisting controls (op.ModifyResponse result) = Err OutOfPlace
operation_said persisting controls (op.AddResponse result) = Err OutOfPlace
operation_said persisting controls (op.DelResponse result) = Err OutOfPlace
operation_said persisting controls (op.ModifyDnResponse result) = Err OutOfPlace
operation_said persisting controls (op.CompareRequest entry name value) = Err OutOfPlace
operation_said persisting controls (op.CompareResponse result) = Err OutOfPlace
operation_said persisting controls (op.AbandonRequest id) = Err OutOfPlace
operation_said persisting controls (op.ExtendedRequest name value) = Err OutOfPlace
operation_said persisting controls (op.ExtendedResponse result name value) = Err OutOfPlace

abbrev pub said : (persisting : Bool) → Message → Result SyncMessage DecodeFault
said persisting message = operation_said persisting message.controls message.op

-- ---- what the consumer keeps of it

abbrev pub control_decoded : Option (Bool × Option CookieText) → Option SyncDone
control_decoded None = None
control_decoded (Some control) = Some (record { cookie = control.1; refresh_deletes = control.0 })

-- what counts of a message: not whether an entry was added or modified, nor the
-- name of one that is gone
abbrev pub decoded_of : SyncMessage → SyncEvent
decoded_of (AddOrModify adds entry cookie) = decoded.AddOrModify entry cookie
decoded_of (Delete uuid name cookie) = decoded.Delete uuid cookie
decoded_of (Present uuid cookie) = decoded.Present uuid
decoded_of (IdSet deletes uuids cookie) = decoded.IdSet deletes uuids cookie
decoded_of (NewCookie cookie) = decoded.NewCookie cookie
decoded_of (RefreshDelete done cookie) = decoded.RefreshDelete done cookie
decoded_of (RefreshPresent done cookie) = decoded.RefreshPresent done cookie
decoded_of (Done code control) = decoded.Done code (control_decoded control)
decoded_of Ignored = decoded.Ignored
