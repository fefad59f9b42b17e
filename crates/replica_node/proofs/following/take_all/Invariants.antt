use Rattle.std.proofs.Common.{◌≡◌, None}
use Rattle.ldap_client.specs.Clients.{client_by}
use Rattle.ldap_client.specs.Links.{link_by}
use Rattle.replica_node.specs.Following.{IsCounted, replica_at, round_at}
use Rattle.replica_node.specs.Rounds.{wanted_by}
use Rattle.replica_node.proofs.Ending.{FollowsOn}
use Rattle.replica_node.proofs.following.take_all.Given as goal

-- the messages that were taken before, and more
abbrev pub invariant-loop : goal.invariant-loop
invariant-loop g l =
    let state = link_by g.L.Source.bytes_left g.L.Source.bytes_read g.L.Sink.bytes_held g.L.Source.read_fault_count g.L.Sink.write_fault_count in
    record {
      live : (client_by state l.client).fault ≡ None;
      counted : IsCounted (g.P.Port.state l.port) l.stored;
      home : g.P.Port.home l.port ≡ g.P.Port.home l.fn.port;
      wanted : wanted_by l.consumer ≡ wanted_by l.fn.consumer;
      follows :
          FollowsOn (round_at (client_by state l.fn.client) (replica_at l.fn.consumer.copy (g.P.Port.state l.fn.port) l.fn.stored))
          (round_at (client_by state l.client) (replica_at l.consumer.copy (g.P.Port.state l.port) l.stored));
    }
