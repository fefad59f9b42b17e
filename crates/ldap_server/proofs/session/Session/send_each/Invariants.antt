use Rattle.std.proofs.Common.{◌≡◌, ◌++◌}
use Rattle.std.specs.List.{flat_map}
use Rattle.ldap_server.specs.HandOuts.{octets_of}
use Rattle.ldap_server.specs.Seen.{point_in}
use Rattle.ldap_server.proofs.Performing.{with_sent}
use Rattle.ldap_server.proofs.session.Session.send_each.Given as goal

-- the messages so far were sent
abbrev pub invariant-loop-message : goal.invariant-loop-message
invariant-loop-message g l = record {
  port : l.self.port ≡ l.fn.self.port;
  sent : point_in g.P.Port.state l.self
      ≡ with_sent (point_in g.P.Port.state l.fn.self) (l.fn.self.sent.items ++ flat_map octets_of l.yielded);
  all : l.fn.messages.items ≡ l.yielded ++ l.message-iterator.rest.items;
}
