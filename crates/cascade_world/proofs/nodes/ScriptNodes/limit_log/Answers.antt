use Rattle.std.proofs.Common.{sym}
use Rattle.sync_provider.specs.Machine.{log_limited}
use Rattle.cascade_world.proofs.Steps.{limit_seen}
use Rattle.cascade_world.proofs.nodes.ScriptNodes.limit_log.Goals as goal

pub returns-clause-steps : goal.returns-clause-steps
returns-clause-steps c =
    rw c.no_lines.ensures
    (limit_seen c.args.self.now _ c.args.name.now (λ p. log_limited p c.args.limit) c.in-Some.place c.index_mut.result.now c.set_log_limit.new.self c.self.view_is (sym c.in-Some.ensures) c.index_mut.ensures.value
    c.set_log_limit.ensures)
