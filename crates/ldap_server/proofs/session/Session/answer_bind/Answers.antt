use Rattle.ldap_server.specs.Seen.{point_in}
use Rattle.ldap_server.proofs.Binds.{bind_answers}
use Rattle.ldap_server.proofs.Performing.{begun_none}
use Rattle.ldap_server.proofs.session.Session.answer_bind.Goals as goal

pub returns-in_default-clause-answer : goal.returns-in_default-clause-answer
returns-in_default-clause-answer g c = begun_none (point_in g.P.Port.state c.args.self.now)

pub returns-clause-answer : goal.returns-clause-answer
returns-clause-answer g c =
    let bind = c.args.bind.now in
    let state = g.P.Port.state in
    let sends = rw (c.drop_searches.ensures.searches, c.binds_as-self.ensures, c.in-Ok.ensures) at c.respond.ensures.sends in
    bind_answers c.args.access.now c.args.id bind.version bind.name bind.authentication (point_in state c.args.self.now) (point_in state c.respond.new.self)
    (state c.drop_searches.new.self.port) c.drop_searches.new.self.sent.items c.respond.result c.drop_searches.ensures.drops c.drop_searches.ensures.sent sends
