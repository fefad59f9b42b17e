-- What a consumer makes of the bytes of a message (RFC 4511, section 5; RFC 4533, section 3).
use Rattle.std.specs.Prelude.{ℕ, ℤ, pos, Bool, false, ◌&&◌, ◌==◌, if◌then◌else◌, is_none, List, codes, Option, Some, None, Result, Ok, Err}
use Rattle.std.specs.Ordering.{int_eq}
use Rattle.ldap_constants.specs.declared.result_codes.TheConstants.{SUCCESS}
use Rattle.ldap_messages.specs.Frame.{Read, read_of}
use Rattle.ldap_messages.specs.Frame.Read.{partial, refused, long, message}
use Rattle.ldap_messages.specs.Operation.{Operation}
use Rattle.ldap_messages.specs.Operation.Operation.{entry, search_done, reference, intermediate}
use Rattle.ldap_messages.specs.Whole.{MessageValue}
use Rattle.ldap_parts.specs.declared.control.Control.{Control}
use Rattle.sync_model.specs.Message.{CookieText, SyncMessage}
use Rattle.sync_model.specs.Message.SyncMessage.{AddOrModify, Delete, Present, IdSet, NewCookie, RefreshDelete, RefreshPresent, Done, Ignored}
use Rattle.sync_model.specs.Copy.{Commit, Copy, SyncSession, Fault, Answer}
use Rattle.sync_model.specs.Copy.{Answer as answer, Fault as fault}
use Rattle.sync_model.specs.Within.{taken_within}
use Rattle.sync_consumer.specs.Taking.{without_search}
use Rattle.sync_wire.specs.Decoding.{entry_said, response_said, control_said}
use Rattle.sync_wire.specs.Refusals.{and_then, on_ok}
use Rattle.sync_wire.specs.Values.{sync_state, sync_done}
use Rattle.sync_wire.specs.declared.fault.DecodeFault.{DecodeFault}
use Rattle.sync_wire.specs.declared.fault.DecodeFault.TheVariants as decoding

-- ---- decoding

abbrev pub whole_in : Read → Option MessageValue
whole_in partial = None
whole_in (refused place) = None
whole_in long = None
whole_in (message whole count) = Some whole

-- the message that the bytes begin with
abbrev pub decoded : List ℕ → Option MessageValue
decoded bytes = whole_in (read_of bytes)

-- what an operation says with these controls; other operations have no place in a search
abbrev pub operation_said :
    (persisting : Bool) → List Control → Operation → Result SyncMessage DecodeFault
operation_said persisting controls (entry parts) =
    and_then (sync_state controls) (entry_said persisting parts.0 parts.1)
operation_said persisting controls (reference uris) = Ok Ignored
operation_said persisting controls (intermediate parts) = response_said parts.0 parts.1
operation_said persisting controls (search_done outcome) =
    on_ok (λ control. Done outcome.code (control_said control)) (sync_done controls)
operation_said persisting controls _ = Err decoding.OutOfPlace

abbrev pub whole_said : (persisting : Bool) → MessageValue → Result SyncMessage DecodeFault
whole_said persisting whole = operation_said persisting whole.1.1 whole.1.0

-- ---- what comes of a message

pub data Came : Type 0 where
  -- it was staged, or changed nothing
  Staged : Came
  -- the stage took effect, with a cookie or without one
  Stored : (commit : Commit) → Came
  Copied : Came
  -- the search is over, with this result code
  Over : ℤ → Came
  -- the message is refused and the search given up, for the fault of this name
  Refused : List ℕ → Came

abbrev pub fault_name : Fault → List ℕ
fault_name fault.OutOfPlace = codes "OutOfPlace"
fault_name (fault.PresentUnknown uuid) = codes "PresentUnknown"
fault_name fault.StageFull = codes "StageFull"
fault_name (fault.DuplicateName one other) = codes "DuplicateName"

abbrev pub decoding_name : DecodeFault → List ℕ
decoding_name decoding.OutOfPlace = codes "OutOfPlace"
decoding_name decoding.BadValue = codes "BadValue"
decoding_name (decoding.UuidDiffers uuid other) = codes "UuidDiffers"
decoding_name (decoding.BadEntry code) = codes "BadEntry"
decoding_name decoding.NoMemory = codes "NoMemory"

abbrev pub came_of : Answer → Came
came_of answer.Staged = Staged
came_of (answer.Stored commit) = Stored commit
came_of (answer.Copied commit) = Copied
came_of (answer.Over code) = Over code
came_of (answer.Refused found) = Refused (fault_name found)

abbrev pub refused_for : Copy → List ℕ → Copy × Came
refused_for copy name = (without_search copy, Refused name)

abbrev pub received_as : ℕ → Copy → Result SyncMessage DecodeFault → Copy × Came
received_as id copy (Err found) = refused_for copy (decoding_name found)
received_as id copy (Ok said) =
    ((taken_within id copy said).0, came_of (taken_within id copy said).1)

-- by the search that runs, for which the message is if it has its message ID
abbrev pub received_by : Option SyncSession → Copy → MessageValue → Copy × Came
received_by None copy whole = refused_for copy (codes "OutOfPlace")
received_by (Some session) copy whole =
    if whole.0 == session.id then received_as whole.0 copy (whole_said session.persisting whole)
    else refused_for copy (codes "OutOfPlace")

abbrev pub received_of : Copy → Option MessageValue → Copy × Came
received_of copy None = refused_for copy (codes "BadMessage")
received_of copy (Some whole) = received_by copy.session copy whole

-- ---- from a link

abbrev pub has_no_cookie : Option (Bool × Option CookieText) → Bool
has_no_cookie None = false
has_no_cookie (Some control) = is_none control.1

-- it ends a refresh, and gives no cookie
abbrev pub ends_without_cookie : SyncMessage → Bool
ends_without_cookie (AddOrModify adds e cookie) = false
ends_without_cookie (Delete uuid name cookie) = false
ends_without_cookie (Present uuid cookie) = false
ends_without_cookie (IdSet deletes uuids cookie) = false
ends_without_cookie (NewCookie cookie) = false
ends_without_cookie (RefreshDelete done cookie) = done && is_none cookie
ends_without_cookie (RefreshPresent done cookie) = done && is_none cookie
ends_without_cookie (Done code control) = has_no_cookie control && int_eq code (pos SUCCESS)
ends_without_cookie Ignored = false

abbrev pub says_end_without_cookie : Result SyncMessage DecodeFault → Bool
says_end_without_cookie (Ok said) = ends_without_cookie said
says_end_without_cookie (Err found) = false

-- the end of a refresh without a cookie has no place in a link, so that a line reports each stage
-- that takes effect
abbrev pub received_next : Copy → Option MessageValue → Copy × Came
received_next copy None = received_of copy None
received_next copy (Some whole) =
    if says_end_without_cookie (whole_said false whole) then refused_for copy (codes "OutOfPlace")
    else received_of copy (Some whole)

-- the copy after the message that these bytes spell, and what came of it
abbrev pub received : Copy → List ℕ → Copy × Came
received copy bytes = received_next copy (decoded bytes)
