use Rattle.cascade_exchange.specs.Exchange.{agreement_of, idle, opened_idle}
use Rattle.cascade_exchange.proofs.Doing.{then_at}
use Rattle.cascade_exchange.proofs.opening.open_search.Goals as goal

pub returns-clause-does : goal.returns-clause-does
returns-clause-does c =
    then_at (idle (agreement_of c.args.provider.now c.args.consumer_node.now c.args.out.now.lineage)) (opened_idle c.args.mode) c.args.out.now c.cut_if_busy.new.out _ c.cut_if_busy.new.provider c.ask_once.new.provider
    c.cut_if_busy.new.consumer_node c.ask_once.new.consumer_node c.ask_once.result c.in_ok-cut_if_busy.ensures.does c.ask_once.ensures.does
