use Rattle.cascade_exchange.specs.Exchange.{agreement_of}
use Rattle.cascade_exchange.proofs.Cuts.{cut_idle, cut_busy}
use Rattle.cascade_exchange.proofs.Others.{free_is_idle}
use Rattle.cascade_exchange.proofs.cutting.cut.Goals as goal

pub returns-then-not-is_busy-clause-does : goal.returns-then-not-is_busy-clause-does
returns-then-not-is_busy-clause-does c =
    cut_idle (agreement_of c.args.provider.now c.args.consumer_node.now c.args.out.now.lineage) _ _ c.is_busy.result c.is_busy.ensures c.if-not-is_busy.true (rw c.as_slice.ensures at c.in_ok-nothing.ensures.line)

pub returns-clause-does : goal.returns-clause-does
returns-clause-does c =
    cut_busy (agreement_of c.args.provider.now c.args.consumer_node.now c.args.out.now.lineage) _ _ _ c.is_busy.result c.is_busy.ensures c.if-not-is_busy.false (c.drop_all.ensures.does c.args.out.now.lineage) (rw c.as_slice-2.ensures at c.in_ok-cut.ensures.line)

pub returns-then-not-is_busy-clause-idle : goal.returns-then-not-is_busy-clause-idle
returns-then-not-is_busy-clause-idle c = free_is_idle c.args.consumer_node.now c.is_busy.result c.is_busy.ensures c.if-not-is_busy.true
