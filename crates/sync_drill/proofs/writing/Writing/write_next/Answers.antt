use Rattle.std.proofs.Common.{◌-◌, refl, arith}
use Rattle.sync_drill.proofs.WriterSteps.{writer-next, writer-same, writer-stays}
use Rattle.sync_drill.proofs.writing.Writing.write_next.Goals as goal

pub returns-in_err-op-clause-goes : goal.returns-in_err-op-clause-goes
returns-in_err-op-clause-goes g c = writer-stays g.P.Port.home g.P.Port.state c.args.self.now

pub returns-in_err-write_one-clause-goes : goal.returns-in_err-write_one-clause-goes
returns-in_err-write_one-clause-goes g c =
    let old = c.args.self.now in
    writer-same g.P.Port.home g.P.Port.state old (record old { port = c.write_one.new.port })
    c.write_one.ensures.home c.write_one.ensures.goes_on c.write_one.ensures.no_search c.in_err-write_one.ensures.err refl refl refl

pub returns-clause-goes : goal.returns-clause-goes
returns-clause-goes g c =
    let old = c.args.self.now in
    writer-next g.P.Port.home g.P.Port.state old
    (record { port = c.write_one.new.port; writer = c.go_on.new.self; needs_unit = old.needs_unit; left = old.left - 1 })
    c.in_ok-op.op c.write_one.ensures.home c.write_one.ensures.goes_on c.write_one.ensures.no_search c.in_ok-write_one.ensures.ok c.in_ok-op.ensures.op
    c.requires.unit c.requires.unit (omega (arith, c.requires.left)) c.go_on.ensures.state
