use Rattle.cascade_exchange.proofs.Openings.{refuses}
use Rattle.cascade_exchange.proofs.opening.refuse.Goals as goal

pub returns-clause-refuses : goal.returns-clause-refuses
returns-clause-refuses c =
    refuses c.args.consumer_node.now c.take_refusal-taken.new.consumer c.in_ok-done.done c.args.code c.args.out.now c.refused.new.self c.in_ok-done.ensures c.in_ok-taken.ensures
    (λ persists. rw c.as_slice.ensures at c.in_ok-refused.ensures.line persists)
