use Rattle.std.proofs.Common.{ap, ◌∙◌}
use Rattle.ldap_client.specs.Clients.{client_by}
use Rattle.ldap_client.specs.Links.{link_by}
use Rattle.sync_consumer.specs.Taking.{ConsumerState}
use Rattle.replica_node.specs.Following.{replica_at}
use Rattle.replica_node.specs.Rounds.{wanted_by}
use Rattle.replica_node.proofs.Ending.{ends_cut}
use Rattle.replica_node.proofs.following.follow.Goals as goal

-- the search is ended, and what is staged is dropped

pub returns-clause-ends : goal.returns-clause-ends
returns-clause-ends g c =
    let state = link_by g.L.Source.bytes_left g.L.Source.bytes_read g.L.Sink.bytes_held g.L.Source.read_fault_count g.L.Sink.write_fault_count in
    let now = c.follow_to_end-outcome in
    ends_cut _ (client_by state now.new.client) (replica_at now.new.consumer.copy (g.P.Port.state now.new.port) now.new.stored) c.cut.new.self.copy now.result now.ensures.ends
    (ap (λ (s : ConsumerState). s.copy) c.cut.ensures)

pub returns-clause-wanted : goal.returns-clause-wanted
returns-clause-wanted g c = ap wanted_by c.cut.ensures ∙ c.follow_to_end-outcome.ensures.wanted
