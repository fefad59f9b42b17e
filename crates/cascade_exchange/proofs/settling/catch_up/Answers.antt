use Rattle.cascade_exchange.specs.Exchange.{agreement_of}
use Rattle.cascade_exchange.proofs.Settled.{followed, not_followed}
use Rattle.cascade_exchange.proofs.settling.catch_up.Goals as goal

pub returns-then-follows_on-clause-does : goal.returns-then-follows_on-clause-does
returns-then-follows_on-clause-does c =
    followed (agreement_of c.args.provider.now c.args.consumer_node.now c.args.out.now.lineage) c.args.out.now c.follows_on.result (c.follows_on.ensures c.args.provider.now c.args.out.now.lineage) c.if-follows_on.true

pub returns-clause-does : goal.returns-clause-does
returns-clause-does c =
    not_followed (agreement_of c.args.provider.now c.args.consumer_node.now c.args.out.now.lineage) (agreement_of c.refresh.new.provider c.refresh.new.consumer_node c.args.out.now.lineage) c.args.out.now c.refresh.new.out c.follows_on.result c.refresh.result
    (c.follows_on.ensures c.args.provider.now c.args.out.now.lineage) c.if-follows_on.false c.refresh.ensures.does
