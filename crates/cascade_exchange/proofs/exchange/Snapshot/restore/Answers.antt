use Rattle.std.proofs.Common.{◌∙◌, ap}
use Rattle.cascade_exchange.specs.Parts.{search_back, consumer_back}
use Rattle.cascade_exchange.proofs.exchange.Snapshot.restore.Goals as goal

pub bring_search_back-requires-clause-no_write : goal.bring_search_back-requires-clause-no_write
bring_search_back-requires-clause-no_write c = rw c.into_inner-own.ensures c.requires.no_write

pub bring_search_back-requires-clause-ours : goal.bring_search_back-requires-clause-ours
bring_search_back-requires-clause-ours c = rw c.into_inner-own.ensures c.requires.ours

pub returns-clause-provider : goal.returns-clause-provider
returns-clause-provider c =
    c.bring_search_back.ensures
    ∙ ap (λ own. search_back own c.args.self.search c.args.consumer_node.now.search c.args.provider.now) c.into_inner-own.ensures

pub returns-clause-consumer_node : goal.returns-clause-consumer_node
returns-clause-consumer_node c = c.bring_consumer_back.ensures ∙ ap (λ before. consumer_back before c.args.consumer_node.now) c.into_inner-before.ensures
