use Rattle.std.proofs.Common.{◌≡◌, drop}
use Rattle.ldap_server.proofs.Exchanging.{Dropping}
use Rattle.ldap_server.proofs.session.drop_each.Given as goal

-- the searches before this place were dropped
abbrev pub invariant-loop-search : goal.invariant-loop-search
invariant-loop-search g l = record {
  home : g.P.Port.home l.port ≡ g.P.Port.home l.fn.port;
  dropping : Dropping l.searches (drop l.search-index l.searches) (g.P.Port.state l.fn.port) (g.P.Port.state l.port);
}
