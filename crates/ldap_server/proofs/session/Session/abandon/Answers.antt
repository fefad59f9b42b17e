use Rattle.std.proofs.Common.{sym, w64}
use Rattle.std.proofs.lemmas.Int.{to_z-of_z}
use Rattle.ldap_server.specs.Seen.{point_in}
use Rattle.ldap_server.proofs.Endings.{abandoned_none, abandoned_one}
use Rattle.ldap_server.proofs.Performing.{session_is}
use Rattle.ldap_server.proofs.session.Session.abandon.Goals as goal

pub returns-in_default-clause-answer : goal.returns-in_default-clause-answer
returns-in_default-clause-answer g c = abandoned_none c.args.target (point_in g.P.Port.state c.args.self.now) (sym (rw (to_z-of_z w64 c.args.target c.ranges.target) at c.in_default.ensures))

pub returns-clause-answer : goal.returns-clause-answer
returns-clause-answer g c =
    let state = g.P.Port.state in
    abandoned_one c.args.target c.in-Some.search (point_in state c.args.self.now) (point_in state c.drop_search.new.self) (sym (rw (to_z-of_z w64 c.args.target c.ranges.target) at c.in-Some.ensures)) c.drop_search.ensures.drops
    (session_is _ _ _ _ c.drop_search.ensures.bound c.drop_search.ensures.searches) c.drop_search.ensures.sent
