use Rattle.std.proofs.Common.{sym, ◌∙◌}
use Rattle.ldap_server.specs.Seen.{point_in}
use Rattle.ldap_server.proofs.Endings.{extended_cancel, extended_other}
use Rattle.ldap_server.proofs.Performing.{begun_none}
use Rattle.ldap_server.proofs.session.Session.answer_extended.Goals as goal

pub returns-then-not-cancels-clause-answer : goal.returns-then-not-cancels-clause-answer
returns-then-not-cancels-clause-answer g c =
    let state = g.P.Port.state in
    extended_other c.args.id c.args.name.now c.args.value.now (point_in state c.args.self.now) (point_in state c.respond.new.self) c.respond.result
    (sym c.cancels.ensures ∙ c.if-not-cancels.true) c.respond.ensures.sends

pub returns-in_default-clause-answer : goal.returns-in_default-clause-answer
returns-in_default-clause-answer g c = begun_none (point_in g.P.Port.state c.args.self.now)

pub returns-clause-answer : goal.returns-clause-answer
returns-clause-answer g c =
    let state = g.P.Port.state in
    extended_cancel c.args.id c.args.name.now c.args.value.now (point_in state c.args.self.now) (point_in state c.cancel_target.new.self) c.cancel_target.result
    (sym c.cancels.ensures ∙ c.if-not-cancels.false) (rw c.in-Ok.ensures at c.cancel_target.ensures.answer)
