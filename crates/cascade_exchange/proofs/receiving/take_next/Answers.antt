use Rattle.std.proofs.Common.{drop, option_map}
use Rattle.ldap_messages.specs.Whole.{message_value}
use Rattle.cascade_exchange.proofs.Takings.{takes_so_far}
use Rattle.cascade_exchange.proofs.receiving.take_next.Goals as goal

pub returns-in-Ok-clause-does : goal.returns-in-Ok-clause-does
returns-in-Ok-clause-does c =
    let node = c.args.consumer_node.now in
    takes_so_far c.args.out.now.lineage c.args.provider.now node c.take_first.new.consumer_node c.in-Some.bytes.now (drop 1 node.link) (option_map message_value c.in_ok-found.found) _ _ c.in-Ok.goes_on
    c.in-Some.ensures.first c.in_ok-found.ensures c.in-Ok.ensures.does
