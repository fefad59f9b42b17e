use Rattle.ldap_messages.specs.Operation.{operation_of}
use Rattle.ldap_server.specs.Seen.{point_in}
use Rattle.ldap_server.proofs.Steps.{does_performed}
use Rattle.ldap_server.proofs.session.Session.answer.Goals as goal

pub returns-in-Ok-clause-answer : goal.returns-in-Ok-clause-answer
returns-in-Ok-clause-answer g c =
    let state = g.P.Port.state in
    let message = c.args.message in
    does_performed c.args.access.now message.id (operation_of message.op) message.controls c.args.now (point_in state c.args.self.now) (point_in state c.answer_request.new.self)
    (rw (c.request_of-request.ensures, c.list.ensures) at c.in-Ok.ensures.answer)
