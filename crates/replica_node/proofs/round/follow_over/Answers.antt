use Rattle.std.proofs.Common.{◌≡◌, refl, ap, sym, ◌∙◌, rules}
use Rattle.ldap_client.specs.Clients.{ClientState, client_by, fresh}
use Rattle.ldap_client.specs.Links.{link_by}
use Rattle.sync_consumer.specs.Taking.{ConsumerState}
use Rattle.replica_node.specs.Following.{replica_at}
use Rattle.replica_node.specs.Rounds.{wanted_by}
use Rattle.replica_node.proofs.Rounding.{link_followed, link_unused}
use Rattle.replica_node.proofs.round.follow_over.Goals as goal

-- the client has just begun
pub follow-outcome-requires-clause-fresh : goal.follow-outcome-requires-clause-fresh
follow-outcome-requires-clause-fresh g c =
    let state = link_by g.D.Link.Source.bytes_left g.D.Link.Source.bytes_read g.D.Link.Sink.bytes_held g.D.Link.Source.read_fault_count g.D.Link.Sink.write_fault_count in
    let client = client_by state c.in-Ok.client in
    let begun : client ≡ fresh client.link = c.in-Ok.ensures.ok ∙ ap fresh (sym (ap (λ (s : ClientState). s.link) c.in-Ok.ensures.ok)) in
    search rules

pub returns-in-Ok-clause-follows : goal.returns-in-Ok-clause-follows
returns-in-Ok-clause-follows g c =
    let state = link_by g.D.Link.Source.bytes_left g.D.Link.Source.bytes_read g.D.Link.Sink.bytes_held g.D.Link.Source.read_fault_count g.D.Link.Sink.write_fault_count in
    let now = c.follow-outcome.new in
    link_followed state (wanted_by c.args.consumer.now) c.args.link c.into_link.result _ (client_by state c.in-Ok.client) (client_by state now.client)
    (g.D.Dial.dialled c.args.dial.now) (g.D.Dial.dialled c.hang_up.new.self) (replica_at c.args.consumer.now.copy (g.P.Port.state c.args.port.now) c.args.stored.now)
    (replica_at now.consumer.copy (g.P.Port.state now.port) now.stored) c.follow-outcome.result c.in-Ok.ensures.ok c.into_link.ensures refl c.follow-outcome.ensures.ends
    c.hang_up.ensures.dialled

-- memory ran out before there was a client, and the link is hung up

pub returns-in-Err-clause-follows : goal.returns-in-Err-clause-follows
returns-in-Err-clause-follows g c =
    let state = link_by g.D.Link.Source.bytes_left g.D.Link.Source.bytes_read g.D.Link.Sink.bytes_held g.D.Link.Source.read_fault_count g.D.Link.Sink.write_fault_count in
    link_unused state (wanted_by c.args.consumer.now) c.args.link (g.D.Dial.dialled c.args.dial.now) (g.D.Dial.dialled c.hang_up-in-Err.new.self)
    (replica_at c.args.consumer.now.copy (g.P.Port.state c.args.port.now) c.args.stored.now) c.cut.new.self.copy (ap (λ (s : ConsumerState). s.copy) c.cut.ensures)
    (rw c.in-Err.ensures.err at c.hang_up-in-Err.ensures.dialled)

pub returns-in-Err-clause-wanted : goal.returns-in-Err-clause-wanted
returns-in-Err-clause-wanted g c = ap wanted_by c.cut.ensures
