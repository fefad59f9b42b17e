use Rattle.std.proofs.Common.{◌≡◌, ◌+◌, take}
use Rattle.std.specs.Prelude.{sum_by}
use Rattle.persist_queues.proofs.weight.weight_within.Given as goal

-- what is left and what the items so far weigh are the most
abbrev pub invariant-loop-item : goal.invariant-loop-item
invariant-loop-item g l = l.left + sum_by g.T.Weighs.weight (take l.item-index l.items) ≡ l.most
