-- No notes are in order.
use Rattle.session_log.proofs.InOrder.{in_order-none}
use Rattle.session_log.proofs.log.SessionLog.new.Goals as goal

pub invariant_of-result : goal.invariant_of-result
invariant_of-result c = λ holds. in_order-none c.new.result.items c.new.ensures.items
