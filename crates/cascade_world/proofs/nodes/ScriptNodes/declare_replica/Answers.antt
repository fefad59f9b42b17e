use Rattle.std.proofs.Common.{ap, ◌∙◌}
use Rattle.entry_tree.specs.Selection.{search_of}
use Rattle.cascade_world.specs.World.{new_consumer_node, with_replica, declare_replica}
use Rattle.cascade_world.proofs.Declaring.{declared}
use Rattle.cascade_world.proofs.Steps.{refused_as}
use Rattle.cascade_world.proofs.nodes.ScriptNodes.declare_replica.Goals as goal

pub returns-in_ok-add_replica-in-Ok-clause-steps : goal.returns-in_ok-add_replica-in-Ok-clause-steps
returns-in_ok-add_replica-in-Ok-clause-steps c =
    let wanted = search_of c.args.wanted in
    declared c.args.self.now (with_replica c.args.self.now (new_consumer_node c.args.name c.args.source wanted c.args.reload)) c.add_replica.new.self c.args.name c.args.source wanted c.no_lines.result c.in-Ok.ensures.ok.2
    (c.in_ok-add_replica-in-Ok.ensures.ok ∙ ap (with_replica c.args.self.now) c.in_ok-consumer_node-in-Ok.ensures) c.no_lines.ensures

pub returns-in-Err-clause-steps : goal.returns-in-Err-clause-steps
returns-in-Err-clause-steps c =
    let wanted = search_of c.args.wanted in
    refused_as (declare_replica c.args.self.now c.args.name c.args.source wanted c.args.reload) c.args.self.now c.in-Err.cause
    (c.in-Err.ensures.fault (with_replica c.args.self.now (new_consumer_node c.args.name c.args.source wanted c.args.reload)))
