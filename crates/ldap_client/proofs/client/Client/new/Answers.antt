use Rattle.std.proofs.Common.{ℕ, List, None, ap}
use Rattle.ldap_client.specs.Clients.{ClientState}
use Rattle.ldap_client.specs.Links.{link_by}
use Rattle.ldap_client.proofs.client.Client.new.Goals as goal

-- nothing is kept yet
pub returns-clause-ok : goal.returns-clause-ok
returns-clause-ok g c =
    let at : List ℕ → ClientState = λ (kept : List ℕ). record {
      link = link_by g.L.Source.bytes_left g.L.Source.bytes_read g.L.Sink.bytes_held g.L.Source.read_fault_count g.L.Sink.write_fault_count c.args.link;
      kept = kept;
      fault = None;
    } in
    ap at c.in-Ok.ensures
