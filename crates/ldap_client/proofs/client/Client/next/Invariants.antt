use Rattle.ldap_client.specs.Clients.{client_by}
use Rattle.ldap_client.specs.Links.{link_by}
use Rattle.ldap_client.proofs.Waiting.{Waiting}
use Rattle.ldap_client.proofs.client.Client.next.Given as goal

-- the reads so far
abbrev pub invariant-loop : goal.invariant-loop
invariant-loop g l =
    let state = link_by g.L.Source.bytes_left g.L.Source.bytes_read g.L.Sink.bytes_held g.L.Source.read_fault_count g.L.Sink.write_fault_count in
    Waiting (client_by state l.fn.self) (client_by state l.self)
