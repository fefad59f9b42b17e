use Rattle.std.proofs.Common.{◌≡◌, ◌<◌, ◌+◌, ◌^◌, false}
use Rattle.sync_drill.specs.Writers.{WriterGoes}
use Rattle.sync_drill.proofs.writing.Writing.write_each.Given as goal

-- what was written and what is left are the same together, and the writer may go on
abbrev pub invariant-operations : goal.invariant-operations
invariant-operations g l = record {
  goes : WriterGoes g.P.Port.home g.P.Port.state l.fn.self l.self;
  unit : l.self.needs_unit ≡ false;
  writer : l.self.writer.writer < 8;
  steps : l.self.writer.step + l.self.left < 2 ^ 16;
}

abbrev pub decreases-operations : goal.decreases-operations
decreases-operations g l = l.self.left
