use Rattle.std.proofs.Common.{◌≡◌, ◌-◌, length}
use Rattle.ldap_server.specs.Seen.{point_in}
use Rattle.ldap_server.proofs.Handing.{HaveTurned}
use Rattle.ldap_server.proofs.session.Session.hand_out_all.Given as goal

-- the searches before this place had their turns
abbrev pub invariant-loop-place : goal.invariant-loop-place
invariant-loop-place g l = record {
  home : g.P.Port.home l.self.port ≡ g.P.Port.home l.fn.self.port;
  turned : HaveTurned l.place (point_in g.P.Port.state l.fn.self) (point_in g.P.Port.state l.self);
}

abbrev pub decreases-loop-place : goal.decreases-loop-place
decreases-loop-place g l = length l.self.searches.items - l.place
