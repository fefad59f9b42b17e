use Rattle.std.proofs.Common.{◌≡◌, length}
use Rattle.sync_io.proofs.Appending.{AppendedUpTo}
use Rattle.sync_io.proofs.sink.write_whole.Given as goal

abbrev pub invariant-loop-rest : goal.invariant-loop-rest
invariant-loop-rest g l =
    let held = g.K.Sink.bytes_held in
    let faults = g.K.Sink.write_fault_count in
    record {
      written : AppendedUpTo l.rest (held l.fn.sink) (held l.sink) l.bytes;
      apart : g.K.Sink.source_side l.sink ≡ g.K.Sink.source_side l.fn.sink;
      sound : faults l.sink ≡ faults l.fn.sink;
    }

abbrev pub decreases-loop-rest : goal.decreases-loop-rest
decreases-loop-rest g l = length l.rest
