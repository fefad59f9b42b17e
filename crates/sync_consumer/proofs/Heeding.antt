-- A search's step, by what its message says.
use Rattle.std.proofs.Common.{◌≡◌, Some, None, Result, Ok, Err, subst}
use Rattle.std.proofs.lemmas.Bool.{eq-eqb}
use Rattle.ldap_messages.specs.declared.message.Message.{Message}
use Rattle.sync_model.specs.Message.{SyncMessage}
use Rattle.sync_model.specs.Message.SyncMessage.{AddOrModify, Delete, Present, IdSet, NewCookie, RefreshDelete, RefreshPresent, Done, Ignored}
use Rattle.sync_wire.specs.Decoding.{said, decoded_of}
use Rattle.sync_wire.specs.Refusals.{on_ok}
use Rattle.sync_wire.specs.declared.fault.DecodeFault.{DecodeFault}
use Rattle.sync_wire.specs.declared.fault.DecodeFault.TheVariants.{OutOfPlace, NoMemory}
use Rattle.sync_wire.specs.declared.decoding.SyncEvent.{SyncEvent}
use Rattle.sync_consumer.specs.declared.fault.Refusal.{Refusal}
use Rattle.sync_consumer.specs.declared.fault.Refusal.TheVariants as refusal
use Rattle.sync_consumer.specs.declared.held.HeldContent.{HeldContent}
use Rattle.sync_consumer.specs.declared.session.SyncSession.{SyncSession}
use Rattle.sync_consumer.specs.declared.session.SearchStep.{SearchStep}
use Rattle.sync_consumer.specs.SyncSession.{message_of, StepsOn, decoded_by_search, taken_by_search}

-- a step by what counts of a message is one by the message
counts : (message : SyncMessage) (held : HeldContent) (session : SyncSession) (held' : HeldContent) (session' : SyncSession) (result : Result SearchStep Refusal)
    → StepsOn held session held' session' result (message_of (decoded_of message)) → StepsOn held session held' session' result message
counts (AddOrModify adds entry cookie) held session held' session' result step = step
counts (Delete uuid name cookie) held session held' session' result step = step
counts (Present uuid cookie) held session held' session' result step = step
counts (IdSet deletes uuids cookie) held session held' session' result step = step
counts (NewCookie cookie) held session held' session' result step = step
counts (RefreshDelete done cookie) held session held' session' result step = step
counts (RefreshPresent done cookie) held session held' session' result step = step
counts (Done code None) held session held' session' result step = step
counts (Done code (Some control)) held session held' session' result step = step
counts Ignored held session held' session' result step = step

heeds : (what : Result SyncMessage DecodeFault) (decoded : SyncEvent) (held : HeldContent) (session : SyncSession) (held' : HeldContent) (session' : SyncSession) (result : Result SearchStep Refusal)
    → on_ok decoded_of what ≡ Ok decoded → StepsOn held session held' session' result (message_of decoded)
    → decoded_by_search held session held' session' result what
heeds (Ok message) decoded held session held' session' result is step =
    let same : decoded ≡ decoded_of message = cc in
    counts message held session held' session' result (subst (λ (h : SyncEvent). StepsOn held session held' session' result (message_of h)) same step)
heeds (Err found) decoded held session held' session' result is step = let wrong : ⊥ = cc in absurd wrong

-- by what was decoded of a message of the search
pub decoded_step : (result : Result SearchStep Refusal) (decoded : SyncEvent) (held : HeldContent) (session : SyncSession) (held' : HeldContent) (session' : SyncSession) (message : Message)
    → message.id ≡ session.id → on_ok decoded_of (said session.persisting message) ≡ Ok decoded
    → StepsOn held session held' session' result (message_of decoded) → taken_by_search held session held' session' result message
decoded_step (Err refusal.NoMemory) decoded held session held' session' message own is step = step
decoded_step (Err refusal.OutOfPlace) decoded held session held' session' message own is step =
    rw (eq-eqb message.id session.id own) (heeds (said session.persisting message) decoded held session held' session' (Err refusal.OutOfPlace) is step)
decoded_step (Err (refusal.Fault answer_taken)) decoded held session held' session' message own is step =
    rw (eq-eqb message.id session.id own) (heeds (said session.persisting message) decoded held session held' session' (Err (refusal.Fault answer_taken)) is step)
decoded_step (Ok done) decoded held session held' session' message own is step =
    rw (eq-eqb message.id session.id own) (heeds (said session.persisting message) decoded held session held' session' (Ok done) is step)
