use Rattle.std.proofs.Common.{ap, ◌∙◌}
use Rattle.ldap_server.specs.Session.{Connected}
use Rattle.ldap_listener.specs.Sessions.{seen_by}
use Rattle.ldap_listener.proofs.Served.{served_by, unserved}
use Rattle.ldap_listener.proofs.serving.serve_link.Goals as goal

pub returns-in-Ok-clause-pass : goal.returns-in-Ok-clause-pass
returns-in-Ok-clause-pass g c =
    rw (c.into_port.ensures.home, c.serve_connection-ended.ensures.home, c.in-Ok.ensures.home, c.desk-desk.ensures.home) at c.leave.ensures.pass

pub returns-in-Ok-clause-served : goal.returns-in-Ok-clause-served
returns-in-Ok-clause-served g c =
    let serves = rw (c.in-Ok.ensures.ok, c.desk-desk.ensures.port) at c.serve_connection-ended.ensures.serves in
    let drops = rw (← c.leave.ensures.port) at c.into_port.ensures.drops in
    let live = ap (λ (connected : Connected). connected.ended) c.in-Ok.ensures.ok in
    served_by (seen_by g.L.Source.bytes_left g.L.Source.bytes_read g.L.Sink.bytes_held g.L.Source.read_fault_count g.L.Sink.write_fault_count) c.args.server.now.access.now
    _ _ _ _ _ c.serve_connection-ended.result serves drops
    (c.serve_connection-ended.ensures.read_failed live) (c.serve_connection-ended.ensures.write_failed live)

pub returns-in-Err-clause-pass : goal.returns-in-Err-clause-pass
returns-in-Err-clause-pass g c = rw (c.in-Err.ensures.err, c.desk-desk.ensures.home) at c.leave-in-Err.ensures.pass

pub returns-in-Err-clause-served : goal.returns-in-Err-clause-served
returns-in-Err-clause-served g c =
    let same = c.leave-in-Err.ensures.port ∙ rw c.in-Err.ensures.err c.desk-desk.ensures.port in
    rw same (unserved (seen_by g.L.Source.bytes_left g.L.Source.bytes_read g.L.Sink.bytes_held g.L.Source.read_fault_count g.L.Sink.write_fault_count) c.args.server.now.access.now _ _)
