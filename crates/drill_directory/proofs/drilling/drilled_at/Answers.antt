-- Fresh ports are fresh where they are parted.
use Rattle.std.proofs.Common.{arith}
use Rattle.drill_directory.proofs.FreshPorts.{first_count, others_count, parted_fresh}
use Rattle.drill_directory.proofs.drilling.drilled_at.Goals as goal

pub split_off-requires : goal.split_off-requires
split_off-requires g c = omega (arith, c.requires.count, c.args.ports.ok.0)

pub drill-requires-clause-plan : goal.drill-requires-clause-plan
drill-requires-clause-plan g c κs within = c.requires.plan

pub drill-requires-clause-writers : goal.drill-requires-clause-writers
drill-requires-clause-writers g c κs within =
    first_count c.args.plan.now.writers c.args.plan.now.consumers c.args.ports.items c.split_off.new.self.items c.in_ok-consumers.ensures.items c.requires.count

pub drill-requires-clause-consumers : goal.drill-requires-clause-consumers
drill-requires-clause-consumers g c κs within =
    others_count c.args.plan.now.writers c.args.plan.now.consumers c.args.ports.items c.in_ok-consumers.consumers.items c.in_ok-consumers.ensures.tail c.requires.count

pub drill-requires-clause-fresh : goal.drill-requires-clause-fresh
drill-requires-clause-fresh g c κs within =
    parted_fresh g.P.Port.home g.P.Port.state c.args.plan.now.writers c.args.ports.items c.split_off.new.self.items c.in_ok-consumers.consumers.items
    c.in_ok-consumers.ensures.items c.in_ok-consumers.ensures.tail c.requires.fresh
