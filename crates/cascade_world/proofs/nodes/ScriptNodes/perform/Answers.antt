use Rattle.cascade_exchange.specs.Exchange.{part_of, is_stepwise}
use Rattle.cascade_world.proofs.AtPlaces.{performed_at, either, unperformed}
use Rattle.cascade_world.proofs.nodes.ScriptNodes.perform.Goals as goal

pub returns-in-Ok-clause-does : goal.returns-in-Ok-clause-does
returns-in-Ok-clause-does c =
    performed_at c.args.self.now _ c.args.provider_node c.args.consumer_node (part_of c.args.exchange) c.index.result.now c.index_mut-from.result.now c.perform_exchange.new.provider_node c.index_mut-to.result.now c.perform_exchange.new.consumer_node
    c.in-Ok.top c.perform_exchange.result c.self.view_is c.requires.provider_node c.requires.consumer_node c.index.ensures c.index_mut-from.ensures.value c.index_mut-to.ensures.value c.in-Ok.ensures
    c.perform_exchange.ensures.does
    (either c.index_mut-from.result.now.provider c.perform_exchange.new.provider_node.provider c.index_mut-to.result.now c.perform_exchange.new.consumer_node c.perform_exchange.result (is_stepwise c.args.exchange) c.perform_exchange.ensures.before c.perform_exchange.ensures.unstaged) c.perform_exchange.ensures.same

pub returns-in-Err-clause-does : goal.returns-in-Err-clause-does
returns-in-Err-clause-does c = unperformed c.args.self.now c.args.provider_node c.args.consumer_node (part_of c.args.exchange) c.requires.provider_node c.requires.consumer_node
