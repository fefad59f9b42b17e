use Rattle.std.proofs.Common.{◌≡◌}
use Rattle.cascade_exchange.specs.Exchange.{agreement_of, takes}
use Rattle.cascade_exchange.specs.Going.{GoesOn}
use Rattle.cascade_exchange.proofs.receiving.take_some.Given as goal

-- n takings are left, and the search is the same
abbrev pub invariant-loop-left : goal.invariant-loop-left
invariant-loop-left l = record {
  left : GoesOn (takes l.fn.count (agreement_of l.fn.provider l.fn.consumer_node l.fn.out.lineage)) (takes l.left (agreement_of l.fn.provider l.consumer_node l.fn.out.lineage)) l.fn.out l.out;
  search : l.consumer_node.search ≡ l.fn.consumer_node.search;
}

abbrev pub decreases-loop-left : goal.decreases-loop-left
decreases-loop-left l = l.left
