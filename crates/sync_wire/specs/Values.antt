-- The values of controls and of Sync Info messages (RFC 4533, sections 2.3 to 2.5).
use Rattle.std.specs.Prelude.{ℕ, List, Option, Some, None, Result, Ok, Err}
use Rattle.ldap_constants.specs.declared.object_identifiers.TheConstants.{SYNC_STATE, SYNC_DONE}
use Rattle.ldap_parts.specs.Controls.{control_named}
use Rattle.ldap_parts.specs.declared.control.Control.{Control}
use Rattle.sync_messages.specs.declared.fault.SyncFault.{SyncFault}
use Rattle.sync_messages.specs.declared.fault.SyncFault.TheVariants as given
use Rattle.sync_messages.specs.declared.done.SyncDone.{SyncDone}
use Rattle.sync_messages.specs.declared.info.SyncInfo.{SyncInfo}
use Rattle.sync_messages.specs.declared.state.SyncState.{SyncState}
use Rattle.sync_messages.specs.Done.{done_of}
use Rattle.sync_messages.specs.Info.{info_of}
use Rattle.sync_messages.specs.State.{state_of}
use Rattle.sync_wire.specs.declared.fault.DecodeFault.{DecodeFault}
use Rattle.sync_wire.specs.declared.fault.DecodeFault.TheVariants.{OutOfPlace, BadValue, NoMemory}
use Rattle.sync_wire.specs.Refusals.{on_ok}

-- each fault of a reading says that the value is outside its grammar
abbrev pub refusal_of : SyncFault → DecodeFault
refusal_of (given.Ber fault) = BadValue
refusal_of (given.BadMode number) = BadValue
refusal_of (given.BadUuidLength count) = BadValue
refusal_of (given.BadState number) = BadValue
refusal_of given.NoMemory = NoMemory

abbrev pub or_refused : {X : Type 0} → Result X SyncFault → Result X DecodeFault
or_refused (Ok x) = Ok x
or_refused (Err fault) = Err (refusal_of fault)

-- a value that is not there is outside each grammar
abbrev pub given_value : Option (List ℕ) → Result (List ℕ) DecodeFault
given_value None = Err (BadValue)
given_value (Some value) = Ok value

abbrev pub read_value :
    {X : Type 0} → (List ℕ → Result X SyncFault) → Option (List ℕ) → Result X DecodeFault
read_value read None = Err (BadValue)
read_value read (Some value) = or_refused (read value)

abbrev pub state_in : Option Control → Result SyncState DecodeFault
state_in None = Err OutOfPlace
state_in (Some control) = read_value state_of control.value

-- an entry has a Sync State control
abbrev pub sync_state : List Control → Result SyncState DecodeFault
sync_state controls = state_in (control_named SYNC_STATE.now controls)

abbrev pub done_in : Option Control → Result (Option SyncDone) DecodeFault
done_in None = Ok None
done_in (Some control) = on_ok (λ done. Some done) (read_value done_of control.value)

-- the end of a search may have a Sync Done control
abbrev pub sync_done : List Control → Result (Option SyncDone) DecodeFault
sync_done controls = done_in (control_named SYNC_DONE.now controls)

abbrev pub sync_info : Option (List ℕ) → Result SyncInfo DecodeFault
sync_info value = read_value info_of value
