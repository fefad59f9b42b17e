use Rattle.cascade_script.specs.Orders.{order_of}
use Rattle.cascade_world.proofs.Keeping.{does_in_step}
use Rattle.cascade_world.proofs.world.World.step.Goals as goal

-- the nodes after the command stay in step
pub invariant_of-self : goal.invariant_of-self
invariant_of-self c =
    does_in_step c.self.inside.nodes c.apply.new.self (order_of c.args.event.command) c.apply.result
    c.self.invariant c.apply.ensures.steps c.apply.ensures.err
