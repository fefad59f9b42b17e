-- A search that runs, as it is kept, and what its steps are.
use Rattle.std.specs.Prelude.{◌≡◌, ⊤, Bool, true, false, cond, ◌==◌, [], Option, Some, None, Result, Ok, Err}
use Rattle.ldap_messages.specs.declared.message.Message.{Message}
use Rattle.sync_model.specs.Message.{CookieText, SyncMessage}
use Rattle.sync_model.specs.Message.SyncMessage.{AddOrModify, Delete, Present, IdSet, NewCookie, RefreshDelete, RefreshPresent, Done, Ignored}
use Rattle.sync_model.specs.Copy as model
use Rattle.sync_model.specs.Copy.{Answer as answer, Fault as fault}
use Rattle.sync_model.specs.Within.{puts_entry, limit_fault, refused_by as refused_by_limit}
use Rattle.sync_wire.specs.Decoding.{said, control_said}
use Rattle.sync_wire.specs.declared.fault.DecodeFault.{DecodeFault}
use Rattle.sync_wire.specs.declared.decoding.SyncEvent.{SyncEvent}
use Rattle.sync_wire.specs.declared.decoding.SyncEvent.TheVariants as decoded
use Rattle.sync_wire.specs.Requesting.{persists}
use Rattle.sync_consumer.specs.declared.consumer.Taken.{Taken}
use Rattle.sync_consumer.specs.declared.consumer.Taken.TheVariants as taken
use Rattle.sync_consumer.specs.declared.fault.PeerFault.TheVariants as peer
use Rattle.sync_consumer.specs.declared.fault.Refusal.{Refusal}
use Rattle.sync_consumer.specs.declared.fault.Refusal.TheVariants as refusal
use Rattle.sync_consumer.specs.declared.held.HeldContent.{HeldContent}
use Rattle.sync_consumer.specs.declared.session.SyncSession.{SyncSession}
use Rattle.sync_consumer.specs.declared.session.SearchStep.{SearchStep}
use Rattle.sync_consumer.specs.declared.session.SearchStep.TheVariants.{Goes, Ends}
use Rattle.sync_consumer.specs.Taking.{refusal_of, taken_commit}

abbrev pub session_of : SyncSession → model.SyncSession
session_of session = record {
  id = session.id;
  persists = persists session.mode;
  persisting = session.persisting;
  ended = session.ended;
  named = session.named;
  stage = session.stage;
}

-- what is held, and the search over it, where it still runs
abbrev pub copy_of : HeldContent → Option model.SyncSession → model.Copy
copy_of held session = record { held = held.entries; cookie = held.cookie; session = session }

abbrev pub copy_with : HeldContent → SyncSession → model.Copy
copy_with held session = copy_of held (Some (session_of session))

-- what is reported of an answer that is no refusal
abbrev pub IsTakenAs : Taken → model.Answer → Type 0
IsTakenAs taken.Staged found = found ≡ answer.Staged
IsTakenAs (taken.Stored commit) found =
    (c : model.Commit) × (found ≡ answer.Stored c) × (commit ≡ taken_commit c)
IsTakenAs (taken.Copied commit) found =
    (c : model.Commit) × (found ≡ answer.Copied c) × (commit ≡ taken_commit c)
IsTakenAs (taken.Over code) found = found ≡ answer.Over code
IsTakenAs (taken.Fault answer_taken) found = ⊥
IsTakenAs taken.NoMemory found = ⊥

abbrev pub refused_by : model.Fault → Refusal
refused_by fault.OutOfPlace = refusal.OutOfPlace
refused_by (fault.PresentUnknown uuid) = refusal.Fault (peer.PresentUnknown uuid)
refused_by fault.StageFull = refusal.Fault peer.StageFull
refused_by (fault.DuplicateName one other) = refusal.Fault (peer.DuplicateName one other)

-- a step from what was held by a search to what is held, beside the copy and the answer that it has
-- to come to; a refusal leaves what is held, and out of memory the search too
abbrev pub Refuses :
    HeldContent → SyncSession → HeldContent → SyncSession → Refusal → model.Copy × model.Answer
    → Type 0
Refuses held session held' session' refusal.NoMemory outcome = (held' ≡ held) × (session' ≡ session)
Refuses held session held' session' refusal.OutOfPlace outcome =
    (held' ≡ held) × (outcome.1 ≡ answer.Refused fault.OutOfPlace)
Refuses held session held' session' (refusal.Fault answer_taken) outcome =
    (held' ≡ held)
    × ((f : model.Fault) × (outcome.1 ≡ answer.Refused f)
    × (refusal.Fault answer_taken ≡ refused_by f))

abbrev pub StepsTo :
    HeldContent → SyncSession → HeldContent → SyncSession → Result SearchStep Refusal
    → model.Copy × model.Answer → Type 0
StepsTo held session held' session' (Ok (Goes taken)) outcome =
    (outcome.0 ≡ copy_of held' (Some (session_of session'))) × IsTakenAs taken outcome.1
StepsTo held session held' session' (Ok (Ends taken)) outcome =
    (outcome.0 ≡ copy_of held' None) × IsTakenAs taken outcome.1
StepsTo held session held' session' (Err found) outcome =
    Refuses held session held' session' found outcome

-- the outcome within the limits of a directory
abbrev pub within :
    (puts : Bool) → HeldContent → SyncSession → model.Copy × model.Answer
    → model.Copy × model.Answer
within puts held session outcome =
    refused_by_limit (limit_fault puts outcome.0 outcome.1) (copy_with held session) outcome

-- what a refresh that ended leads to: a search that persists goes on
abbrev pub refresh_ended :
    model.Copy → model.SyncSession → (deletes : Bool) → Option CookieText
    → model.Copy × model.Answer
refresh_ended copy session deletes cookie =
    model.refreshed copy (model.ends_phase copy.held session deletes) cookie
    (cond session.persists
    (Some (model.persists_on (model.ends_phase copy.held session deletes))) None)

-- ---- each message

-- the message without what does not count: whether an entry is added or modified, and the name of
-- one that is gone
abbrev pub message_of : SyncEvent → SyncMessage
message_of (decoded.AddOrModify entry cookie) = AddOrModify true entry cookie
message_of (decoded.Delete uuid cookie) = Delete uuid [] cookie
message_of (decoded.Present uuid) = Present uuid None
message_of (decoded.IdSet deletes uuids cookie) = IdSet deletes uuids cookie
message_of (decoded.NewCookie cookie) = NewCookie cookie
message_of (decoded.RefreshDelete done cookie) = RefreshDelete done cookie
message_of (decoded.RefreshPresent done cookie) = RefreshPresent done cookie
message_of (decoded.Done code control) = Done code (control_said control)
message_of decoded.Ignored = Ignored

-- the step that a message of the search leads to
abbrev pub StepsOn :
    HeldContent → SyncSession → HeldContent → SyncSession → Result SearchStep Refusal → SyncMessage
    → Type 0
StepsOn held session held' session' result message =
    StepsTo held session held' session' result
    (within (puts_entry message) held session
    (model.taken_in (copy_with held session) (session_of session) message))

abbrev pub decoded_by_search :
    HeldContent → SyncSession → HeldContent → SyncSession → Result SearchStep Refusal
    → Result SyncMessage DecodeFault → Type 0
decoded_by_search held session held' session' result (Err found) =
    (held' ≡ held) × (result ≡ Err (refusal_of found))
decoded_by_search held session held' session' result (Ok message) =
    StepsOn held session held' session' result message

-- a message of this search, or of another one
abbrev pub taken_by_id :
    (own : Bool) → HeldContent → SyncSession → HeldContent → SyncSession
    → Result SearchStep Refusal → Message → Type 0
taken_by_id true held session held' session' result message =
    decoded_by_search held session held' session' result (said session.persisting message)
taken_by_id false held session held' session' result message =
    (held' ≡ held) × (result ≡ Err refusal.OutOfPlace)

-- a message taken by the search; out of memory leaves all as it was
abbrev pub taken_by_search :
    HeldContent → SyncSession → HeldContent → SyncSession → Result SearchStep Refusal → Message
    → Type 0
taken_by_search held session held' session' (Err refusal.NoMemory) message =
    (held' ≡ held) × (session' ≡ session)
taken_by_search held session held' session' (Err refusal.OutOfPlace) message =
    taken_by_id (message.id == session.id) held session held'
    session' (Err refusal.OutOfPlace) message
taken_by_search held session held' session' (Err (refusal.Fault found)) message =
    taken_by_id (message.id == session.id) held session held' session'
    (Err (refusal.Fault found)) message
taken_by_search held session held' session' (Ok step) message =
    taken_by_id (message.id == session.id) held session held' session' (Ok step) message

-- the refusal is the fault that was found; out of memory reports nothing
abbrev pub RefusesBy : Option model.Fault → Refusal → Type 0
RefusesBy found refusal.OutOfPlace = found ≡ Some fault.OutOfPlace
RefusesBy found (refusal.Fault peer) =
    (f : model.Fault) × (found ≡ Some f) × (refusal.Fault peer ≡ refused_by f)
RefusesBy found refusal.NoMemory = ⊤
