use Rattle.std.proofs.Common.{sym, subst}
use Rattle.ldap_messages.specs.Operation.{IsOfGrammar}
use Rattle.ldap_server.proofs.Spelled.{response_spelled}
use Rattle.ldap_server.proofs.session.Session.respond.Goals as goal

pub send-requires : goal.send-requires
send-requires g c = subst IsOfGrammar (sym c.operation-op.ensures) (response_spelled c.args.response c.args.code)

pub returns-clause-sends : goal.returns-clause-sends
returns-clause-sends g c = rw (c.operation-op.ensures, c.new-controls.ensures) at c.send.ensures.sends
