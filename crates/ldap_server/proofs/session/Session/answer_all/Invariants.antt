use Rattle.std.proofs.Common.{◌≡◌, ◌-◌, length}
use Rattle.ldap_server.specs.Seen.{point_in}
use Rattle.ldap_server.proofs.Going.{Going}
use Rattle.ldap_server.proofs.session.Session.answer_all.Given as goal

-- the messages before this place are answered
abbrev pub invariant-loop-count : goal.invariant-loop-count
invariant-loop-count g l = record {
  home : g.P.Port.home l.self.port ≡ g.P.Port.home l.fn.self.port;
  going : Going l.access l.now l.bytes l.place (point_in g.P.Port.state l.fn.self) (point_in g.P.Port.state l.self);
}

abbrev pub decreases-loop-count : goal.decreases-loop-count
decreases-loop-count g l = length l.bytes - l.place
