use Rattle.dn_names.specs.Reading.{name_of_text}
use Rattle.ldap_session.specs.Shown.{search_shown}
use Rattle.ldap_server.specs.Seen.{point_in}
use Rattle.ldap_server.proofs.Searched.{based, unbased}
use Rattle.ldap_server.proofs.session.Session.answer_search.Goals as goal

pub returns-in-Ok-clause-answer : goal.returns-in-Ok-clause-answer
returns-in-Ok-clause-answer g c =
    let state = g.P.Port.state in
    based c.args.id (name_of_text c.args.asked.base) c.in-Ok.base (search_shown c.args.asked) c.args.controls.now
    (point_in state c.args.self.now) (point_in state c.answer_based.new.self) c.answer_based.result c.in-Ok.ensures.ok c.answer_based.ensures.answer

pub returns-in-Err-clause-answer : goal.returns-in-Err-clause-answer
returns-in-Err-clause-answer g c =
    let state = g.P.Port.state in
    unbased c.args.id (name_of_text c.args.asked.base) c.in-Err.code (search_shown c.args.asked) c.args.controls.now
    (point_in state c.args.self.now) (point_in state c.respond.new.self) c.respond.result c.in-Err.ensures.err c.respond.ensures.sends
