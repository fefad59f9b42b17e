use Rattle.std.proofs.Common.{◌≡◌, ◌≤◌}
use Rattle.ldap_client.specs.Links.{link_by}
use Rattle.replica_node.specs.Following.{IsCounted, replica_at}
use Rattle.replica_node.specs.Rounds.{wanted_by}
use Rattle.replica_node.proofs.Rounding.{HasFollowed}
use Rattle.replica_node.proofs.replica.run_rounds.Given as goal

-- the rounds so far
abbrev pub invariant-loop : goal.invariant-loop
invariant-loop g l =
    let state = link_by g.D.Link.Source.bytes_left g.D.Link.Source.bytes_read g.D.Link.Sink.bytes_held g.D.Link.Source.read_fault_count g.D.Link.Sink.write_fault_count in
    record {
      follows :
          HasFollowed state l.address (wanted_by l.fn.consumer) (g.P.Port.state l.fn.port) (g.D.Dial.dialled l.fn.dial) l.rounds l.tried
          (replica_at l.consumer.copy (g.P.Port.state l.port) l.stored) (g.D.Dial.dialled l.dial);
      counted : IsCounted (g.P.Port.state l.port) l.stored;
      home : g.P.Port.home l.port ≡ g.P.Port.home l.fn.port;
      wanted : wanted_by l.consumer ≡ wanted_by l.fn.consumer;
      later : g.D.Dial.dial_fault_count l.fn.dial ≤ g.D.Dial.dial_fault_count l.dial;
    }
