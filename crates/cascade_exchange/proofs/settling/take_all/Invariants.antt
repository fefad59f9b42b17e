use Rattle.std.proofs.Common.{length}
use Rattle.cascade_exchange.specs.Exchange.{agreement_of, drains}
use Rattle.cascade_exchange.specs.Going.{Drains}
use Rattle.cascade_exchange.specs.Parts.{KeepsOthers}
use Rattle.cascade_exchange.proofs.settling.take_all.Given as goal

-- the rest of the link is left
abbrev pub invariant-loop : goal.invariant-loop
invariant-loop l = record {
  left : Drains (drains (agreement_of l.fn.provider l.fn.consumer_node l.fn.out.lineage)) (agreement_of l.provider l.consumer_node l.fn.out.lineage) l.fn.out l.out;
  others : KeepsOthers l.fn.provider l.fn.consumer_node l.provider l.consumer_node;
}

abbrev pub decreases-loop : goal.decreases-loop
decreases-loop l = length l.consumer_node.link
