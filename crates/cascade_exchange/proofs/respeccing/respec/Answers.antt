use Rattle.std.specs.Prelude.{Ok}
use Rattle.entry_tree.specs.Selection.{search_of}
use Rattle.cascade_exchange.specs.Exchange.{agreement_of, idle, with_spec}
use Rattle.cascade_exchange.proofs.Doing.{then_at, refused_first}
use Rattle.cascade_exchange.proofs.Giving.{with_spec_does}
use Rattle.cascade_exchange.proofs.respeccing.respec.Goals as goal

pub returns-in-Ok-clause-does : goal.returns-in-Ok-clause-does
returns-in-Ok-clause-does c =
    then_at (idle (agreement_of c.args.provider.now c.args.consumer_node.now c.args.out.now.lineage)) (with_spec (search_of c.args.wanted)) c.args.out.now c.cut_if_busy.new.out c.cut_if_busy.new.out c.cut_if_busy.new.provider c.cut_if_busy.new.provider
    c.cut_if_busy.new.consumer_node (record c.cut_if_busy.new.consumer_node { consumer = c.respec.new.self }) (Ok tt) c.in-Ok.ensures.does
    (with_spec_does c.cut_if_busy.new.out.lineage c.cut_if_busy.new.provider c.cut_if_busy.new.consumer_node c.respec.new.self (search_of c.args.wanted) c.cut_if_busy.new.out c.respec.ensures)

pub returns-in-Err-clause-does : goal.returns-in-Err-clause-does
returns-in-Err-clause-does c =
    let pair = agreement_of c.args.provider.now c.args.consumer_node.now c.args.out.now.lineage in
    refused_first (idle pair) (with_spec (search_of c.args.wanted)) c.args.out.now c.cut_if_busy.new.out c.cut_if_busy.new.out (agreement_of c.cut_if_busy.new.provider c.cut_if_busy.new.consumer_node c.args.out.now.lineage)
    (agreement_of c.cut_if_busy.new.provider c.cut_if_busy.new.consumer_node c.args.out.now.lineage) c.in-Err.cause c.in-Err.ensures.does
