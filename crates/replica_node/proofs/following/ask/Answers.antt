use Rattle.std.proofs.Common.{ap, rules}
use Rattle.ldap_client.specs.Clients.{client_by}
use Rattle.ldap_client.specs.Links.{link_by}
use Rattle.ldap_messages.specs.Whole.{HasSpelling, message_value}
use Rattle.sync_consumer.specs.Taking.{ConsumerState}
use Rattle.replica_node.specs.Rounds.{wanted_by}
use Rattle.replica_node.proofs.Ending.{asks_for, asks_not, asks_nothing, request_spelled}
use Rattle.replica_node.proofs.following.ask.Goals as goal

-- the request has a spelling, by the depth of its filter
pub send-requires-clause-spelled : goal.send-requires-clause-spelled
send-requires-clause-spelled g c =
    let consumer = c.args.consumer.now in
    let spelled : HasSpelling (message_value c.in-Ok.request) =
    request_spelled (wanted_by consumer) consumer.copy (message_value c.in-Ok.request) c.in-Ok.ensures.message c.requires.filter in
    search rules

-- memory ran out before there was one
pub returns-in_default-clause-asks : goal.returns-in_default-clause-asks
returns-in_default-clause-asks g c =
    let state = link_by g.L.Source.bytes_left g.L.Source.bytes_read g.L.Sink.bytes_held g.L.Source.read_fault_count g.L.Sink.write_fault_count in
    asks_nothing (wanted_by c.args.consumer.now) (client_by state c.args.client.now) c.args.consumer.now c.request.new.self c.requires.live c.in_default.ensures.err

pub returns-in-Ok-send-clause-asks : goal.returns-in-Ok-send-clause-asks
returns-in-Ok-send-clause-asks g c =
    let consumer = c.args.consumer.now in (
      asks_for (wanted_by consumer) consumer.copy (message_value c.in-Ok.request) _ _ _ c.in-Ok.ensures.message c.in-Ok-send.ensures,
      ap (λ (s : ConsumerState). s.copy) c.in-Ok.ensures.ok,
    )

pub returns-in-Ok-send-clause-wanted : goal.returns-in-Ok-send-clause-wanted
returns-in-Ok-send-clause-wanted g c = ap wanted_by c.in-Ok.ensures.ok

pub returns-in-Err-clause-asks : goal.returns-in-Err-clause-asks
returns-in-Err-clause-asks g c =
    let consumer = c.args.consumer.now in
    let asks = asks_for (wanted_by consumer) consumer.copy (message_value c.in-Ok.request) _ _ _ c.in-Ok.ensures.message c.in-Err.ensures in
    rw c.outcome_by.ensures (asks_not (wanted_by consumer) _ _ consumer.copy _ c.in-Err.fault asks (ap (λ (s : ConsumerState). s.copy) c.in-Ok.ensures.ok))

pub returns-in-Err-clause-wanted : goal.returns-in-Err-clause-wanted
returns-in-Err-clause-wanted g c = ap wanted_by c.in-Ok.ensures.ok
