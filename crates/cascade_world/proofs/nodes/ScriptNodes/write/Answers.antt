use Rattle.std.proofs.Common.{sym}
use Rattle.cascade_world.proofs.Steps.{write_seen}
use Rattle.cascade_world.proofs.nodes.ScriptNodes.write.Goals as goal

pub returns-clause-steps : goal.returns-clause-steps
returns-clause-steps c =
    write_seen c.args.self.now _ c.args.name.now c.as_slice.result.now c.args.change.now c.in-Some.place c.index_mut.result.now c.write_to.new.provider c.write_to.result
    c.self.view_is c.as_slice.ensures (sym c.in-Some.ensures) c.index_mut.ensures.value c.write_to.ensures
