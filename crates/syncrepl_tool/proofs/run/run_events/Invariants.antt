use Rattle.std.proofs.Common.{length}
use Rattle.syncrepl_tool.proofs.SyncSession.{SoFar}
use Rattle.syncrepl_tool.proofs.run.run_events.Given as goal

-- the events so far are done and reported
abbrev pub invariant-loop-event : goal.invariant-loop-event
invariant-loop-event g l =
    let held = g.O.Sink.bytes_held in
    let faults = g.O.Sink.write_fault_count in
    SoFar l.fn.script l.world l.script (held l.fn.output) (held l.output) (faults l.fn.output) (faults l.output)

abbrev pub decreases-loop-event : goal.decreases-loop-event
decreases-loop-event g l = length l.script.lines
