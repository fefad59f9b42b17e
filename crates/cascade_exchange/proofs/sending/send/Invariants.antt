use Rattle.cascade_exchange.specs.Exchange.{agreement_of, sent}
use Rattle.cascade_exchange.specs.Going.{GoesOn}
use Rattle.cascade_exchange.specs.Parts.{KeepsOthers}
use Rattle.cascade_exchange.proofs.sending.send.Given as goal

-- n sendings are left
abbrev pub invariant-loop-left : goal.invariant-loop-left
invariant-loop-left l = record {
  goes : GoesOn (sent l.fn.count (agreement_of l.fn.provider l.fn.consumer_node l.fn.out.lineage)) (sent l.left (agreement_of l.provider l.consumer_node l.fn.out.lineage)) l.fn.out l.out;
  others : KeepsOthers l.fn.provider l.fn.consumer_node l.provider l.consumer_node;
}

abbrev pub decreases-loop-left : goal.decreases-loop-left
decreases-loop-left l = l.left
