use Rattle.ldap_server.specs.Seen.{point_in}
use Rattle.ldap_server.proofs.Endings.{cancelled_none, cancelled_one}
use Rattle.ldap_server.proofs.Performing.{begun_part, sends_more, session_is}
use Rattle.ldap_server.proofs.session.Session.cancel.Goals as goal

pub returns-in_default-clause-answer : goal.returns-in_default-clause-answer
returns-in_default-clause-answer g c =
    let state = g.P.Port.state in
    cancelled_none c.args.id c.args.search (point_in state c.args.self.now) (point_in state c.respond.new.self) c.respond.result c.in_default.is
    c.respond.ensures.sends

-- both responses were sent
pub returns-in-Ok-clause-answer : goal.returns-in-Ok-clause-answer
returns-in-Ok-clause-answer g c =
    let state = g.P.Port.state in
    let old = point_in state c.args.self.now in
    let dropped = point_in state c.drop_search.new.self in
    cancelled_one c.args.id c.args.search c.in-Some.search old dropped (point_in state c.respond-in-Ok.new.self) c.respond-in-Ok.result c.in-Some.is c.drop_search.ensures.drops
    (session_is _ _ _ _ c.drop_search.ensures.bound c.drop_search.ensures.searches) c.drop_search.ensures.sent
    (sends_more _ _ dropped (point_in state c.respond-2.new.self) _ _ c.in-Ok.ensures.sends c.respond-in-Ok.ensures.sends)

-- memory ran out in the first one
pub returns-in-Err-clause-answer : goal.returns-in-Err-clause-answer
returns-in-Err-clause-answer g c =
    let state = g.P.Port.state in
    let drops = c.drop_search.ensures.drops in
    begun_part drops.asked (point_in state c.args.self.now) (point_in state c.drop_search.new.self) (point_in state c.respond-2.new.self) drops.exchanged
    c.drop_search.ensures.sent c.in-Err.ensures.sends
