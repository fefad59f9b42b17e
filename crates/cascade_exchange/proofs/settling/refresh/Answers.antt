use Rattle.cascade_exchange.specs.Exchange.{agreement_of, opens_anew, runs}
use Rattle.cascade_exchange.proofs.Doing.{then_at}
use Rattle.cascade_exchange.proofs.settling.refresh.Goals as goal

pub returns-clause-does : goal.returns-clause-does
returns-clause-does c =
    then_at (opens_anew (agreement_of c.args.provider.now c.args.consumer_node.now c.args.out.now.lineage)) runs c.args.out.now c.open_anew.new.out _ c.open_anew.new.provider c.run_search.new.provider
    c.open_anew.new.consumer_node c.run_search.new.consumer_node c.run_search.result c.in_ok-open_anew.ensures.does c.run_search.ensures.does
