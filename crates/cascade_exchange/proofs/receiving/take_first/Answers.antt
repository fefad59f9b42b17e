use Rattle.std.proofs.Common.{ℕ, List, option_map, subst}
use Rattle.ldap_messages.specs.Whole.{message_value}
use Rattle.cascade_exchange.specs.Exchange.{agreement_of}
use Rattle.cascade_exchange.specs.Parts.{IsReceivedSoFar}
use Rattle.cascade_exchange.specs.Reception.{received_next}
use Rattle.cascade_exchange.proofs.receiving.take_first.Goals as goal

pub returns-in-Ok-clause-does : goal.returns-in-Ok-clause-does
returns-in-Ok-clause-does c =
    let node = c.args.consumer_node.now in
    let lineage = c.args.out.now.lineage in
    subst
    (λ (link : List (List ℕ)). IsReceivedSoFar (agreement_of c.args.provider.now (record node { link = link }) lineage) (received_next node.consumer.copy (option_map message_value c.args.found))
    c.args.out.now (agreement_of c.args.provider.now c.take_found.new.consumer_node lineage) c.take_found.new.out c.take_found.result)
    c.in-Ok.ensures.ok c.take_found.ensures.does
