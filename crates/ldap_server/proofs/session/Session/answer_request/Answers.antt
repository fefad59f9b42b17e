use Rattle.std.proofs.Common.{ap, sym}
use Rattle.ldap_session.specs.Shown.{shown}
use Rattle.ldap_server.specs.Seen.{point_in}
use Rattle.ldap_server.proofs.Requested.{passed, refused}
use Rattle.ldap_server.proofs.session.Session.answer_request.Goals as goal

pub returns-in-Some-clause-home : goal.returns-in-Some-clause-home
returns-in-Some-clause-home g c = ap g.P.Port.home c.refuse.ensures.port

pub returns-in-Some-clause-answer : goal.returns-in-Some-clause-answer
returns-in-Some-clause-answer g c =
    let envelope = c.args.envelope.now in
    let state = g.P.Port.state in
    refused c.args.access.now envelope.id envelope.controls.now envelope.now (point_in state c.args.self.now) (point_in state c.refuse.new.self) c.refuse.result
    (shown c.args.request) c.in-Some.code (sym c.in-Some.ensures) (rw c.response_to-response.ensures at c.refuse.ensures.sends)

pub returns-in-None-clause-answer : goal.returns-in-None-clause-answer
returns-in-None-clause-answer g c =
    let envelope = c.args.envelope.now in
    let state = g.P.Port.state in
    passed c.args.access.now envelope.id envelope.controls.now envelope.now (point_in state c.args.self.now) (point_in state c.answer_tested.new.self) c.answer_tested.result
    (shown c.args.request) (sym c.in-None.ensures) c.answer_tested.ensures.answer
