use Rattle.std.proofs.lemmas.Result.{IfOk-weaker}
use Rattle.syncrepl_tool.proofs.SyncSession.{start, go_on, prefix_so_far, prefix_of_next, whole_so_far, refused_read, refused_step, ends_refused, sound_anyway}
use Rattle.syncrepl_tool.proofs.run.run_events.Goals as goal

pub loop-event-init : goal.loop-event-init
loop-event-init g c = start _ _ _ _ c.requires.fresh

pub returns-in-Ok-None-clause-prefix : goal.returns-in-Ok-None-clause-prefix
returns-in-Ok-None-clause-prefix g c = prefix_so_far c.loop-event.invariant

pub returns-in-Ok-None-clause-ends : goal.returns-in-Ok-None-clause-ends
returns-in-Ok-None-clause-ends g c = whole_so_far c.loop-event.invariant (rw c.in-Ok-None.field-0-is at c.in-Ok-None.ensures.reads).0

pub returns-in-Err-clause-prefix : goal.returns-in-Err-clause-prefix
returns-in-Err-clause-prefix g c = prefix_so_far c.loop-event.invariant

pub returns-in-Err-clause-ends : goal.returns-in-Err-clause-ends
returns-in-Err-clause-ends g c =
    IfOk-weaker c.refused.result _ _
    (λ outcome is. ends_refused _ _ c.in-Err.fault outcome (refused_read c.loop-event.invariant c.in-Err.fault.line c.in-Err.fault.cause is.0 c.in-Err.ensures.reads) is.1) c.refused.ensures

pub returns-then-not-write_whole-clause-prefix : goal.returns-then-not-write_whole-clause-prefix
returns-then-not-write_whole-clause-prefix g c =
    let reads = rw c.in-Ok-Some.field-0-is at c.in-Ok-Some.ensures.reads in
    prefix_of_next c.loop-event.invariant _ _ _ c.step.new.self _ _ reads c.in-Ok.ensures.steps (rw c.as_slice.ensures at c.write_whole.ensures.prefix)

pub loop-event-preserved : goal.loop-event-preserved
loop-event-preserved g c =
    let reads = rw c.in-Ok-Some.field-0-is at c.in-Ok-Some.ensures.reads in
    go_on c.loop-event.invariant _ _ c.read_event.new.script c.step.new.self _ _ _ reads c.in-Ok.ensures.steps (rw c.as_slice.ensures at c.if-not-write_whole.ensures.whole) c.if-not-write_whole.ensures.sound

pub returns-in-Err-step-clause-prefix : goal.returns-in-Err-step-clause-prefix
returns-in-Err-step-clause-prefix g c = rw c.in-Err-step.ensures.err (prefix_so_far c.loop-event.invariant)

pub returns-in-Err-step-clause-ends : goal.returns-in-Err-step-clause-ends
returns-in-Err-step-clause-ends g c =
    let reads = rw c.in-Ok-Some.field-0-is at c.in-Ok-Some.ensures.reads in
    rw c.in-Err-step.ensures.err (IfOk-weaker c.refused-in-Err-step.result _ _
    (λ outcome is. ends_refused _ _ c.in-Err-step.fault outcome (refused_step c.loop-event.invariant _ c.in-Err-step.fault.line _ _ c.in-Err-step.fault.cause reads is.0 c.in-Err-step.ensures.steps) is.1) c.refused-in-Err-step.ensures)

-- no write failed

pub returns-in-Err-clause-sound : goal.returns-in-Err-clause-sound
returns-in-Err-clause-sound g c = sound_anyway c.refused.result _ _ c.loop-event.invariant.sound

pub returns-in-Err-step-clause-sound : goal.returns-in-Err-step-clause-sound
returns-in-Err-step-clause-sound g c = sound_anyway c.refused-in-Err-step.result _ _ c.loop-event.invariant.sound
