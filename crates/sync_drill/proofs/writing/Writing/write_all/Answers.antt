use Rattle.sync_drill.proofs.WriterSteps.{writer-twice}
use Rattle.sync_drill.proofs.writing.Writing.write_all.Goals as goal

pub returns-in-Ok : goal.returns-in-Ok
returns-in-Ok g c =
    writer-twice g.P.Port.home g.P.Port.state c.args.self.now c.write_unit.new.self c.write_each.new.self
    c.write_unit.ensures.goes c.write_each.ensures

pub returns-in-Err : goal.returns-in-Err
returns-in-Err g c = c.write_unit.ensures.goes
