use Rattle.std.proofs.Common.{◌+◌, ◌<◌, ◌∙◌, arith, refl}
use Rattle.shared_directory.specs.Passes.{directory_id}
use Rattle.ldap_listener.specs.Sessions.{seen_by}
use Rattle.ldap_listener.proofs.Accounts.{keeps-none, keeps-then}
use Rattle.ldap_listener.proofs.Faults.{faults-none, faults-then}
use Rattle.ldap_listener.proofs.accepting.accept_all.Goals.{else-connections-ne0-via-then-connections-ne0+else-number-connections, else-connections-ne0-via-else-connections-ne0}
use Rattle.ldap_listener.proofs.accepting.accept_all.Goals as goal

pub loop-init : goal.loop-init
loop-init g c = record {
  k = 0;
  keeps = keeps-none (seen_by g.N.Link.Source.bytes_left g.N.Link.Source.bytes_read g.N.Link.Sink.bytes_held g.N.Link.Source.read_fault_count g.N.Link.Sink.write_fault_count)
      c.args.server.now.access.now (directory_id c.args.server.now.directory.now) _ _ c.requires.order;
  number = λ some. (refl, omega arith);
  faults = refl;
}

pub loop-preserved : goal.loop-preserved
loop-preserved g c =
    let was = c.loop.invariant in
    let one = c.in-Ok.ensures in
    record {
      k = was.k + one.count;
      keeps = keeps-then (seen_by g.N.Link.Source.bytes_left g.N.Link.Source.bytes_read g.N.Link.Sink.bytes_held g.N.Link.Source.read_fault_count g.N.Link.Sink.write_fault_count)
          c.args.server.now.access.now (directory_id c.args.server.now.directory.now) was.k one.count _ _ _ _ _ _ was.keeps one.keeps;
      number = λ some. let first = was.number some in
          elim c.else-connections-ne0.branch [
            | else-connections-ne0-via-then-connections-ne0+else-number-connections w ↦
                omega (arith, first.0, first.1, some, one.known, w.if-number-connections.false, c.saturating_add-number.ensures, c.ranges.connections)
            | else-connections-ne0-via-else-connections-ne0 w ↦ absurd (omega (arith, some, w.if-connections-ne0.false))
          ];
      faults = one.faults.faultless (λ e. let never : ⊥ = cc in never) ∙ was.faults;
    }

pub returns-in-Err : goal.returns-in-Err
returns-in-Err g c =
    let was = c.loop.invariant in
    let one = c.in-Err.ensures in
    record {
      count = was.k + one.count;
      known = tt;
      keeps = keeps-then (seen_by g.N.Link.Source.bytes_left g.N.Link.Source.bytes_read g.N.Link.Sink.bytes_held g.N.Link.Source.read_fault_count g.N.Link.Sink.write_fault_count)
          c.args.server.now.access.now (directory_id c.args.server.now.directory.now) was.k one.count _ _ _ _ _ _ was.keeps one.keeps;
      faults = faults-then _ _ _ _ was.faults one.faults;
    }

-- all came
pub returns-then-number-connections : goal.returns-then-number-connections
returns-then-number-connections g c =
    let was = c.loop.invariant in
    let some : 0 < c.args.connections = omega (arith, c.if-connections-ne0.true) in
    record { count = was.k; known = (some, (was.number some).0 ∙ c.if-number-connections.true); keeps = was.keeps; faults = faults-none _ _ _ was.faults }
