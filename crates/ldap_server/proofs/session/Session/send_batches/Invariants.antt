use Rattle.std.proofs.Common.{◌≡◌, ◌++◌}
use Rattle.std.specs.List.{flat_map}
use Rattle.ldap_server.specs.Seen.{point_in}
use Rattle.ldap_server.proofs.InBatches.{batch_octets}
use Rattle.ldap_server.proofs.Performing.{with_sent}
use Rattle.ldap_server.proofs.session.Session.send_batches.Given as goal

-- the batches so far were sent
abbrev pub invariant-loop-batch : goal.invariant-loop-batch
invariant-loop-batch g l = record {
  port : l.self.port ≡ l.fn.self.port;
  sent : point_in g.P.Port.state l.self
      ≡ with_sent (point_in g.P.Port.state l.fn.self)
      (l.fn.self.sent.items ++ flat_map (batch_octets l.id l.selection.selectors.now l.selection.types_only) l.yielded);
  all : l.fn.batches.items ≡ l.yielded ++ l.batch-iterator.rest.items;
}
