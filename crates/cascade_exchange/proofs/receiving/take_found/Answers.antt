use Rattle.std.proofs.Common.{ap, option_map, refl}
use Rattle.ldap_messages.specs.Whole.{message_value}
use Rattle.cascade_exchange.specs.Exchange.{closed, copy_of, emptied}
use Rattle.cascade_exchange.proofs.Reception.{garbled}
use Rattle.cascade_exchange.proofs.receiving.take_found.Goals as goal

pub returns-in_ok-faulted-in-None-clause-does : goal.returns-in_ok-faulted-in-None-clause-does
returns-in_ok-faulted-in-None-clause-does c =
    let node = c.args.consumer_node.now in
    garbled c.args.out.now.lineage c.args.provider.now (closed c.args.provider.now node.search) node (emptied node (copy_of node)) (option_map message_value c.args.found) _ _ (ap (option_map message_value) c.in-None.is)
    refl (rw c.as_slice.ensures at c.in_ok-faulted-in-None.ensures.line)
