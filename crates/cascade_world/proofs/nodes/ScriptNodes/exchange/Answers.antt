use Rattle.cascade_exchange.specs.Exchange.{part_of}
use Rattle.cascade_world.proofs.AtPlaces.{provider_node_low, consumer_node_low}
use Rattle.cascade_world.proofs.Steps.{nowhere}
use Rattle.cascade_world.proofs.nodes.ScriptNodes.exchange.Goals as goal

pub exchange_at-requires-clause-provider_node : goal.exchange_at-requires-clause-provider_node
exchange_at-requires-clause-provider_node c = provider_node_low c.args.self.now c.args.name c.in-Ok.provider_node c.in-Ok.consumer_node c.in-Ok.ensures.ok

pub exchange_at-requires-clause-consumer_node : goal.exchange_at-requires-clause-consumer_node
exchange_at-requires-clause-consumer_node c = consumer_node_low c.args.self.now c.args.name c.in-Ok.provider_node c.in-Ok.consumer_node c.in-Ok.ensures.ok

pub returns-in-Ok-clause-steps : goal.returns-in-Ok-clause-steps
returns-in-Ok-clause-steps c = c.exchange_at.ensures.steps c.args.name c.in-Ok.ensures.ok

pub returns-clause-steps : goal.returns-clause-steps
returns-clause-steps c =
    let fault = c.in-Err.ensures.fault in
    nowhere c.args.self.now c.args.self.now c.args.name (part_of c.args.exchange) c.in-Err.cause fault.0 fault.1

pub exchange_at-requires-clause-places : goal.exchange_at-requires-clause-places
exchange_at-requires-clause-places c = (c.args.name, c.in-Ok.ensures.ok)
