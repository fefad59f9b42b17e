use Rattle.std.proofs.Common.{◌≡◌, ◌-◌, false, length}
use Rattle.std.specs.Io.KnownBytes.{Consumes}
use Rattle.syncrepl_tool.proofs.run.read_text.Given as goal

-- the text is what was read so far
abbrev pub invariant-loop-buffer : goal.invariant-loop-buffer
invariant-loop-buffer g l =
    record {
      left : Consumes (g.I.Source.bytes_left l.fn.input) (g.I.Source.bytes_left l.input) l.text.items;
      waits : g.I.Source.waits l.input ≡ false;
      sound : g.I.Source.read_fault_count l.input ≡ g.I.Source.read_fault_count l.fn.input;
      size : length l.buffer ≡ 4096;
    }

abbrev pub decreases-loop-buffer : goal.decreases-loop-buffer
decreases-loop-buffer g l = 67108865 - length l.text.items
