use Rattle.cascade_exchange.specs.Exchange.{agreement_of}
use Rattle.cascade_exchange.proofs.Settled.{settled}
use Rattle.cascade_exchange.proofs.settling.settle.Goals as goal

pub returns-clause-does : goal.returns-clause-does
returns-clause-does c =
    let line = rw (c.as_slice.ensures, c.writes.ensures.value) at c.in_ok-settled.ensures.line in
    settled (agreement_of c.args.provider.now c.args.consumer_node.now c.args.out.now.lineage) c.take_all.new.provider c.run_search.new.provider c.catch_up.new.provider c.take_all.new.consumer_node c.run_search.new.consumer_node
    c.catch_up.new.consumer_node c.args.out.now c.take_all.new.out c.run_search.new.out c.catch_up.new.out _ c.in_ok-take_all.ensures.does c.in_ok-run_search.ensures.does c.in_ok-catch_up.ensures.does line
