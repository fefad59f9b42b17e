use Rattle.std.proofs.Common.{SFits, rules, w64}
use Rattle.std.proofs.lemmas.Int.{to_z-of_z}
use Rattle.ldap_server.specs.Seen.{point_in}
use Rattle.ldap_server.proofs.Endings.{target_none, target_some}
use Rattle.ldap_server.proofs.session.Session.cancel_target.Goals as goal

pub returns-in-Some-clause-answer : goal.returns-in-Some-clause-answer
returns-in-Some-clause-answer g c =
    let state = g.P.Port.state in
    let fits : SFits w64 c.in-Some.target = search rules in
    target_some c.args.id c.args.target c.in-Some.target (point_in state c.args.self.now) (point_in state c.cancel.new.self) c.cancel.result c.in-Some.is
    (rw (c.search_of_id-search.ensures, to_z-of_z w64 c.in-Some.target fits) at c.cancel.ensures.answer)

pub returns-in-None-clause-answer : goal.returns-in-None-clause-answer
returns-in-None-clause-answer g c =
    let state = g.P.Port.state in
    target_none c.args.id c.args.target (point_in state c.args.self.now) (point_in state c.respond.new.self) c.respond.result c.in-None.is c.respond.ensures.sends
