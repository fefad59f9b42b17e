use Rattle.std.proofs.lemmas.Result.{IfOk-weaker}
use Rattle.cascade_exchange.proofs.Openings.{asked_value}
use Rattle.cascade_exchange.proofs.opening.asked.Goals as goal

pub returns-clause-value : goal.returns-clause-value
returns-clause-value c =
    IfOk-weaker c.control_of-control.result _ _
    (λ value is. asked_value c.args.consumer_node.now.consumer c.args.mode c.in_ok-request.request value c.in_ok-request.ensures.message is c.in_ok-request.ensures.read_again) c.control_of-control.ensures
