use Rattle.std.proofs.Common.{◌<◌, ◌^◌, sym, subst, arith}
use Rattle.sync_drill.proofs.WriterSteps.{writer-stays, writer-twice}
use Rattle.sync_drill.proofs.writing.Writing.write_each.Goals as goal

pub operations-init : goal.operations-init
operations-init g c = record {
  goes = writer-stays g.P.Port.home g.P.Port.state c.args.self.now;
  unit = c.requires.unit;
  writer = c.requires.writer;
  steps = c.requires.steps;
}

pub operations-preserved : goal.operations-preserved
operations-preserved g c = record {
  goes = writer-twice g.P.Port.home g.P.Port.state c.args.self.now c.operations.self c.write_next.new.self
      c.operations.invariant.goes c.write_next.ensures.goes;
  unit = c.write_next.ensures.unit;
  writer = subst (λ n. n < 8) (sym c.write_next.ensures.writer) c.operations.invariant.writer;
  steps = subst (λ n. n < 2 ^ 16) (sym c.write_next.ensures.steps) c.operations.invariant.steps;
}

pub operations-smaller : goal.operations-smaller
operations-smaller g c = omega (arith, c.in-Ok.ensures.left)

pub returns-in-Err : goal.returns-in-Err
returns-in-Err g c =
    writer-twice g.P.Port.home g.P.Port.state c.args.self.now c.operations.self c.write_next.new.self
    c.operations.invariant.goes c.write_next.ensures.goes

pub returns : goal.returns
returns g c = c.operations.invariant.goes
