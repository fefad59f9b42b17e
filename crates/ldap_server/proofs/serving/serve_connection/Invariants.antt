use Rattle.std.proofs.Common.{◌≡◌, ◌≤◌, None}
use Rattle.ldap_server.specs.Seen.{connected_by}
use Rattle.ldap_server.proofs.Linking.{Linked}
use Rattle.ldap_server.proofs.serving.serve_connection.Given as goal

-- the events so far
abbrev pub invariant-loop : goal.invariant-loop
invariant-loop g l = record {
  home : g.P.Port.home l.connection.session.port ≡ g.P.Port.home l.fn.connection.session.port;
  linked : Linked (connected_by g.P.Port.state l.fn.connection)
      (record { left = g.L.Source.bytes_left l.fn.link; read = g.L.Source.bytes_read l.fn.link; held = g.L.Sink.bytes_held l.fn.link })
      (connected_by g.P.Port.state l.connection)
      (record { left = g.L.Source.bytes_left l.link; read = g.L.Source.bytes_read l.link; held = g.L.Sink.bytes_held l.link });
  live : (connected_by g.P.Port.state l.fn.connection).ended ≡ None → (connected_by g.P.Port.state l.connection).ended ≡ None;
  read_later : g.L.Source.read_fault_count l.fn.link ≤ g.L.Source.read_fault_count l.link;
  write_later : g.L.Sink.write_fault_count l.fn.link ≤ g.L.Sink.write_fault_count l.link;
}
