use Rattle.std.proofs.Common.{◌≡◌, None, refl, ap, ◌∙◌, rules}
use Rattle.ldap_client.specs.Clients.{ClientState, client_by}
use Rattle.ldap_client.specs.Links.{link_by}
use Rattle.sync_model.specs.Copy.{Copy}
use Rattle.replica_node.specs.Following.{replica_at}
use Rattle.replica_node.specs.Rounds.{wanted_by}
use Rattle.replica_node.proofs.Ending.{asked_to_end, ends_unasked}
use Rattle.replica_node.proofs.following.follow_to_end.Goals as goal

-- a client that has just begun answers no fault
pub ask-requires-clause-live : goal.ask-requires-clause-live
ask-requires-clause-live g c =
    let state = link_by g.L.Source.bytes_left g.L.Source.bytes_read g.L.Sink.bytes_held g.L.Source.read_fault_count g.L.Sink.write_fault_count in
    let live : (client_by state c.args.client.now).fault ≡ None = ap (λ (s : ClientState). s.fault) c.requires.fresh in
    search rules

pub take_all-requires-clause-live : goal.take_all-requires-clause-live
take_all-requires-clause-live g c =
    let state = link_by g.L.Source.bytes_left g.L.Source.bytes_read g.L.Sink.bytes_held g.L.Source.read_fault_count g.L.Sink.write_fault_count in
    let live : (client_by state c.ask.new.client).fault ≡ None = c.in-None.ensures.asks.0.fault in
    search rules

-- the search was asked for

pub returns-in-None-clause-ends : goal.returns-in-None-clause-ends
returns-in-None-clause-ends g c =
    let state = link_by g.L.Source.bytes_left g.L.Source.bytes_read g.L.Sink.bytes_held g.L.Source.read_fault_count g.L.Sink.write_fault_count in
    let port = g.P.Port.state c.args.port.now in
    let stored = c.args.stored.now in
    let now = c.take_all.new in
    asked_to_end (wanted_by c.args.consumer.now) (client_by state c.args.client.now) (client_by state c.ask.new.client) (client_by state now.client)
    (replica_at c.args.consumer.now.copy port stored) (replica_at c.ask.new.consumer.copy port stored) (replica_at now.consumer.copy (g.P.Port.state now.port) now.stored)
    c.take_all.result c.requires.fresh c.in-None.ensures.asks.0 (ap (λ (copy : Copy). replica_at copy port stored) c.in-None.ensures.asks.1) c.take_all.ensures.takes

pub returns-in-None-clause-wanted : goal.returns-in-None-clause-wanted
returns-in-None-clause-wanted g c = c.take_all.ensures.wanted ∙ c.in-None.ensures.wanted

-- it was not

pub returns-in-Some-clause-ends : goal.returns-in-Some-clause-ends
returns-in-Some-clause-ends g c =
    let state = link_by g.L.Source.bytes_left g.L.Source.bytes_read g.L.Sink.bytes_held g.L.Source.read_fault_count g.L.Sink.write_fault_count in
    let port = g.P.Port.state c.args.port.now in
    let stored = c.args.stored.now in
    ends_unasked (wanted_by c.args.consumer.now) (client_by state c.args.client.now) (client_by state c.ask.new.client) (replica_at c.args.consumer.now.copy port stored)
    (replica_at c.ask.new.consumer.copy port stored) c.in-Some.outcome c.requires.fresh c.in-Some.ensures.asks refl refl
