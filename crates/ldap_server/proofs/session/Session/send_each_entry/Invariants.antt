use Rattle.std.proofs.Common.{◌≡◌, ◌++◌, take}
use Rattle.std.specs.List.{flat_map}
use Rattle.ldap_server.specs.Seen.{point_in}
use Rattle.ldap_server.specs.Selecting.{entry_octets}
use Rattle.ldap_server.proofs.Performing.{with_sent}
use Rattle.ldap_server.proofs.session.Session.send_each_entry.Given as goal

-- the entries so far were sent
abbrev pub invariant-loop-entry : goal.invariant-loop-entry
invariant-loop-entry g l = record {
  port : l.self.port ≡ l.fn.self.port;
  sent : point_in g.P.Port.state l.self
      ≡ with_sent (point_in g.P.Port.state l.fn.self)
      (l.fn.self.sent.items ++ flat_map (entry_octets l.id l.selection.selectors.now l.selection.types_only) (take l.entry-index l.entries));
}
