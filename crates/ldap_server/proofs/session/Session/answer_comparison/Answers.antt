use Rattle.ldap_server.specs.Seen.{point_in}
use Rattle.ldap_server.specs.Table.{CompareGives}
use Rattle.ldap_server.specs.declared.response.Response.TheVariants.{Compare}
use Rattle.ldap_server.proofs.Performing.{outcome_code}
use Rattle.ldap_server.proofs.session.Session.answer_comparison.Goals as goal

pub returns-clause-answer : goal.returns-clause-answer
returns-clause-answer g c =
    let asked = c.args.asked.now in
    let state = g.P.Port.state in
    outcome_code (CompareGives asked.entry asked.name asked.value) c.args.id Compare c.code_of_comparison-code.result
    (point_in state c.args.self.now) (point_in state c.respond.new.self) (state c.code_of_comparison-code.new.port) c.respond.result
    c.code_of_comparison-code.ensures.finds c.respond.ensures.sends
