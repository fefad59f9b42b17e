use Rattle.cascade_exchange.specs.Exchange.{agreement_of, left_to_send, runs}
use Rattle.cascade_exchange.specs.Going.{Runs}
use Rattle.cascade_exchange.specs.Parts.{KeepsOthers}
use Rattle.cascade_exchange.proofs.settling.run_search.Given as goal

-- what the search still has pending is left
abbrev pub invariant-loop-provider : goal.invariant-loop-provider
invariant-loop-provider l = record {
  left : Runs (runs (agreement_of l.fn.provider l.fn.consumer_node l.fn.out.lineage)) (agreement_of l.provider l.consumer_node l.fn.out.lineage) l.fn.out l.out;
  others : KeepsOthers l.fn.provider l.fn.consumer_node l.provider l.consumer_node;
}

abbrev pub decreases-loop-provider : goal.decreases-loop-provider
decreases-loop-provider l = left_to_send (agreement_of l.provider l.consumer_node l.fn.out.lineage) l.consumer_node.search
