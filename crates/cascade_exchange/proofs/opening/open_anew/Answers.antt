use Rattle.cascade_exchange.specs.Exchange.{agreement_of, idle, asked_again}
use Rattle.cascade_exchange.proofs.Doing.{then_at}
use Rattle.cascade_exchange.proofs.opening.open_anew.Goals as goal

pub returns-clause-does : goal.returns-clause-does
returns-clause-does c =
    then_at (idle (agreement_of c.args.provider.now c.args.consumer_node.now c.args.out.now.lineage)) asked_again c.args.out.now c.cut_if_busy.new.out _ c.cut_if_busy.new.provider c.ask_again.new.provider
    c.cut_if_busy.new.consumer_node c.ask_again.new.consumer_node c.ask_again.result c.in_ok-cut_if_busy.ensures.does c.ask_again.ensures.does
