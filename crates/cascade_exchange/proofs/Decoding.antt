-- What a decoded message says to a search, and what a consumer makes of it.
use Rattle.std.proofs.Common.{◌≡◌, ◌==◌, ℕ, Bool, Option, Some, None, List, refl, ap, ◌∙◌, inl, inr}
use Rattle.std.proofs.lemmas.Bool.{cases_Bool}
use Rattle.std.specs.Prelude.{Result, Ok, Err, codes}
use Rattle.ldap_messages.specs.declared.message.Message.{Message}
use Rattle.ldap_messages.specs.declared.protocol.Protocol.{Protocol}
use Rattle.ldap_messages.specs.declared.protocol.Protocol.TheVariants as op
use Rattle.ldap_messages.specs.Operation.{operation_of}
use Rattle.ldap_messages.specs.Whole.{message_value}
use Rattle.ldap_parts.specs.declared.control.Control.{Control}
use Rattle.schema_rules.specs.declared.raw.Change.TheVariants.{Add, Delete, Modify, Rename}
use Rattle.sync_model.specs.Message.{SyncMessage}
use Rattle.sync_model.specs.Copy.{Copy, SyncSession, Answer as answer, Fault as fault}
use Rattle.sync_model.specs.Within.{taken_within}
use Rattle.sync_consumer.specs.declared.consumer.Taken.{Taken}
use Rattle.sync_consumer.specs.declared.consumer.Taken.TheVariants as taken
use Rattle.sync_consumer.specs.Taking.{taken_of, taken_by, taken_as, answer_taken, taken_refusal, refusal_of}
use Rattle.sync_wire.specs.Decoding as wire
use Rattle.sync_wire.specs.Kind.{tag_of}
use Rattle.sync_wire.specs.declared.fault.DecodeFault.{DecodeFault}
use Rattle.sync_wire.specs.declared.fault.DecodeFault.TheVariants as decoding
use Rattle.cascade_report.specs.ReportLines.{commit_reported}
use Rattle.cascade_exchange.specs.Reception.{Came, operation_said, whole_said, came_of, received_as, received_by, decoding_name}
use Rattle.cascade_exchange.specs.Reception.{Came as came}
use Rattle.cascade_exchange.specs.Naming.{peer_name}

-- an operation says the same as its components
op_said : (persisting : Bool) (controls : List Control) (op : Protocol) → operation_said persisting controls (operation_of op) ≡ wire.operation_said persisting controls op
unfolding operation_of
op_said persisting controls (op.BindRequest version name authentication) = refl
op_said persisting controls (op.BindResponse result sasl) = refl
op_said persisting controls op.UnbindRequest = refl
op_said persisting controls (op.SearchRequest asked) = refl
op_said persisting controls (op.SearchResultEntry name attributes) = refl
op_said persisting controls (op.SearchResultDone result) = refl
op_said persisting controls (op.Write (Add name attributes)) = refl
op_said persisting controls (op.Write (Delete name)) = refl
op_said persisting controls (op.Write (Modify name edits)) = refl
op_said persisting controls (op.Write (Rename name rdn goes superior)) = refl
op_said persisting controls (op.ModifyResponse result) = refl
op_said persisting controls (op.AddResponse result) = refl
op_said persisting controls (op.DelResponse result) = refl
op_said persisting controls (op.ModifyDnResponse result) = refl
op_said persisting controls (op.CompareRequest entry name value) = refl
op_said persisting controls (op.CompareResponse result) = refl
op_said persisting controls (op.AbandonRequest id) = refl
op_said persisting controls (op.SearchResultReference uris) = refl
op_said persisting controls (op.ExtendedRequest name value) = refl
op_said persisting controls (op.ExtendedResponse result name value) = refl
op_said persisting controls (op.IntermediateResponse name value) = refl

-- what a whole message says to a search is what `sync_wire` decodes it to
pub message_said : (persisting : Bool) (m : Message) → whole_said persisting (message_value m) ≡ wire.said persisting m
message_said persisting m = op_said persisting m.controls m.op

-- what is reported of a message, by what came of it
abbrev pub came_reported : Taken → Came
came_reported taken.Staged = came.Staged
came_reported (taken.Stored commit) = came.Stored (commit_reported commit)
came_reported (taken.Copied commit) = came.Copied
came_reported (taken.Over code) = came.Over code
came_reported (taken.Fault found) = came.Refused (peer_name found)
came_reported taken.NoMemory = came.Refused (codes "NoMemory")

answer_reported : (tag : ℕ) (a : answer) → came_of a ≡ came_reported (answer_taken tag a)
answer_reported tag answer.Staged = refl
answer_reported tag (answer.Stored commit) = refl
answer_reported tag (answer.Copied commit) = refl
answer_reported tag (answer.Over code) = refl
answer_reported tag (answer.Refused fault.OutOfPlace) = refl
answer_reported tag (answer.Refused (fault.PresentUnknown uuid)) = refl
answer_reported tag (answer.Refused fault.StageFull) = refl
answer_reported tag (answer.Refused (fault.DuplicateName one other)) = refl

refusal_reported : (tag : ℕ) (f : DecodeFault) → came.Refused (decoding_name f) ≡ came_reported (taken_refusal tag (refusal_of f))
refusal_reported tag decoding.OutOfPlace = refl
refusal_reported tag decoding.BadValue = refl
refusal_reported tag (decoding.UuidDiffers uuid other) = refl
refusal_reported tag (decoding.BadEntry code) = refl
refusal_reported tag decoding.NoMemory = refl

abbrev seen : Copy × Taken → Copy × Came
seen x = (x.0, came_reported x.1)

as_reported : (tag id : ℕ) (copy : Copy) (said : Result SyncMessage DecodeFault) → received_as id copy said ≡ seen (taken_as tag id copy said)
as_reported tag id copy (Err found) = ap (λ c. ((taken_as tag id copy (Err found)).0, c)) (refusal_reported tag found)
as_reported tag id copy (Ok message) = ap (λ c. ((taken_within id copy message).0, c)) (answer_reported tag (taken_within id copy message).1)

by_reported : (session : Option SyncSession) (copy : Copy) (m : Message) → received_by session copy (message_value m) ≡ seen (taken_by session copy m)
by_reported None copy m = refl
by_reported (Some session) copy m =
    elim (cases_Bool (m.id == session.id)) [
      | inl own ↦ rw own (ap (received_as m.id copy) (message_said session.persisting m) ∙ as_reported (tag_of m.op) m.id copy (wire.said session.persisting m))
      | inr other ↦ rw other refl
    ]

-- a consumer makes the same of a message as of its components
pub received_reported : (copy : Copy) (m : Message) → received_by copy.session copy (message_value m) ≡ ((taken_of copy m).0, came_reported (taken_of copy m).1)
received_reported copy m = by_reported copy.session copy m
