use Rattle.ldap_session.specs.Binding.{may_write}
use Rattle.ldap_server.specs.Encoding.{write_response}
use Rattle.ldap_server.specs.Seen.{point_in}
use Rattle.ldap_server.specs.Table.{ChangeGives}
use Rattle.ldap_server.proofs.Performing.{outcome_code}
use Rattle.ldap_server.proofs.session.Session.answer_write.Goals as goal

pub returns-clause-answer : goal.returns-clause-answer
returns-clause-answer g c =
    let state = g.P.Port.state in
    let finds = rw c.may_write-allowed.ensures at c.code_of_write-code.ensures.finds in
    let sends = rw c.write_response.ensures at c.respond.ensures.sends in
    outcome_code (ChangeGives (may_write c.args.access.now c.args.self.now.bound) c.args.change.now c.args.now) c.args.id (write_response c.args.change.now) c.code_of_write-code.result
    (point_in state c.args.self.now) (point_in state c.respond.new.self) (state c.code_of_write-code.new.port) c.respond.result finds sends
