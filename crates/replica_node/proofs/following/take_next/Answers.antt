use Rattle.std.proofs.Common.{◌≡◌, Some, None}
use Rattle.ldap_client.specs.Clients.{client_by}
use Rattle.ldap_client.specs.Links.{link_by}
use Rattle.replica_node.proofs.Ending.{ends_fault, takes_next}
use Rattle.replica_node.proofs.Stepping.{same_wanted}
use Rattle.replica_node.specs.Following.{replica_at}
use Rattle.replica_node.proofs.following.take_next.Goals as goal

-- a message was given

pub returns-in-Ok-clause-takes : goal.returns-in-Ok-clause-takes
returns-in-Ok-clause-takes g c =
    let state = link_by g.L.Source.bytes_left g.L.Source.bytes_read g.L.Sink.bytes_held g.L.Source.read_fault_count g.L.Sink.write_fault_count in
    let now = c.take-outcome.new in
    takes_next (client_by state c.args.client.now) (client_by state c.next.new.self) (replica_at c.args.consumer.now.copy (g.P.Port.state c.args.port.now) c.args.stored.now)
    (replica_at now.consumer.copy (g.P.Port.state now.port) now.stored) c.in-Ok.message c.take-outcome.result (c.in-Ok.ensures.gives c.requires.live) c.take-outcome.ensures.takes

pub returns-in-Ok-clause-wanted : goal.returns-in-Ok-clause-wanted
returns-in-Ok-clause-wanted g c = same_wanted c.args.consumer.now c.take-outcome.new.consumer c.take-outcome.ensures.spec c.take-outcome.ensures.reload

pub returns-in-Ok-clause-live : goal.returns-in-Ok-clause-live
returns-in-Ok-clause-live g c = λ _. (c.in-Ok.ensures.gives c.requires.live).fault

-- none was

pub returns-in-Err-clause-takes : goal.returns-in-Err-clause-takes
returns-in-Err-clause-takes g c =
    let state = link_by g.L.Source.bytes_left g.L.Source.bytes_read g.L.Sink.bytes_held g.L.Source.read_fault_count g.L.Sink.write_fault_count in
    rw c.outcome_by.ensures
    (ends_fault (client_by state c.args.client.now) (client_by state c.next.new.self) (replica_at c.args.consumer.now.copy (g.P.Port.state c.args.port.now) c.args.stored.now)
    c.in-Err.fault (c.in-Err.ensures.gives c.requires.live))

pub returns-in-Err-clause-live : goal.returns-in-Err-clause-live
returns-in-Err-clause-live g c = λ none. absurd (let wrong : Some c.outcome_by.result ≡ None = none in cc)
