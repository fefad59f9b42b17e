use Rattle.cascade_exchange.proofs.Others.{others_handed, others_ended}
use Rattle.cascade_exchange.proofs.sending.next_message.Goals as goal

pub returns-in-Message-clause-provider : goal.returns-in-Message-clause-provider
returns-in-Message-clause-provider c =
    others_handed c.args.provider.now c.hand_out.new.self c.args.consumer_node.now.search c.in-Some.number c.in-Some.is c.in-Message.ensures.leaves.state

pub returns-in-Ended-clause-provider : goal.returns-in-Ended-clause-provider
returns-in-Ended-clause-provider c =
    others_ended c.args.provider.now c.hand_out.new.self c.args.consumer_node.now.search c.in-Some.number c.in-Some.is c.in-Ended.ensures.leaves.state
