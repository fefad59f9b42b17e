use Rattle.std.proofs.lemmas.Result.{err_from_is_err_and}
use Rattle.cascade_exchange.specs.Exchange.{agreement_of, sending}
use Rattle.cascade_exchange.proofs.Sendings.{sends_found, overflows_found, rests_found, sending_starves}
use Rattle.cascade_exchange.proofs.sending.send_one.Goals as goal

pub returns-in_err-message-clause-does : goal.returns-in_err-message-clause-does
returns-in_err-message-clause-does c =
    let p = err_from_is_err_and c.from_residual.result c.from_residual.ensures.1 in
    let here = agreement_of c.args.provider.now c.args.consumer_node.now c.args.out.now.lineage in
    rw (p.1, p.2)
    (sending_starves here (agreement_of c.next_message.new.provider c.next_message.new.consumer_node c.args.out.now.lineage) (sending here) c.args.out.now c.args.out.now c.in_err-message.field-0.0
    (c.in_err-message.ensures.exact c.args.out.now.lineage))

pub returns-in_default-clause-does : goal.returns-in_default-clause-does
returns-in_default-clause-does c =
    rests_found c.args.out.now.lineage c.args.provider.now c.next_message.new.provider c.args.consumer_node.now c.next_message.new.consumer_node c.in_ok-message.field-0 c.args.out.now (c.in_ok-message.ensures.exact c.args.out.now.lineage) c.in_default.is

pub returns-in-Ok-clause-does : goal.returns-in-Ok-clause-does
returns-in-Ok-clause-does c =
    sends_found c.args.out.now.lineage c.args.provider.now c.next_message.new.provider c.args.consumer_node.now c.next_message.new.consumer_node c.put_into_link-linked.new.consumer_node c.in_ok-message.field-0 c.in-Some.message c.args.out.now c.put_into_link-linked.new.out
    (c.in_ok-message.ensures.exact c.args.out.now.lineage) c.in-Some.is c.in-Ok.ensures.links

pub returns-in-Err-clause-does : goal.returns-in-Err-clause-does
returns-in-Err-clause-does c =
    overflows_found c.args.out.now.lineage c.args.provider.now c.next_message.new.provider c.args.consumer_node.now c.next_message.new.consumer_node c.put_into_link-linked.new.consumer_node c.in_ok-message.field-0 c.in-Some.message c.args.out.now c.put_into_link-linked.new.out
    (agreement_of c.next_message.new.provider c.put_into_link-linked.new.consumer_node c.args.out.now.lineage) c.in-Err.cause
    (c.in_ok-message.ensures.exact c.args.out.now.lineage) c.in-Some.is c.in-Err.ensures.links
