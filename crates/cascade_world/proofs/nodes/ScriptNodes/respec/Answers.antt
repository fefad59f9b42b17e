use Rattle.std.proofs.Common.{sym, subst}
use Rattle.entry_tree.specs.Selection.{search_of}
use Rattle.cascade_world.specs.World.{DoesStep, respec}
use Rattle.cascade_world.proofs.Steps.{refused_as}
use Rattle.cascade_world.proofs.nodes.ScriptNodes.respec.Goals as goal

pub returns-in-Ok-clause-steps : goal.returns-in-Ok-clause-steps
returns-in-Ok-clause-steps c = subst (λ next. DoesStep next c.exchange.new.self c.exchange.result) (sym c.in-Ok.ensures.ok) c.exchange.ensures.steps

pub returns-in-Err-clause-steps : goal.returns-in-Err-clause-steps
returns-in-Err-clause-steps c = refused_as (respec c.args.self.now c.args.name (search_of c.args.wanted)) c.args.self.now c.in-Err.cause c.in-Err.ensures.fault
