use Rattle.std.proofs.Common.{refl, ◌∙◌}
use Rattle.ldap_server.specs.Seen.{point_in}
use Rattle.ldap_server.proofs.Events.{acts_on_quiet}
use Rattle.ldap_server.proofs.Performing.{stopped_back}
use Rattle.ldap_server.proofs.Steps.{halts_here, step_hands}
use Rattle.ldap_server.proofs.connection.Connection.take_quiet.Goals as goal

pub returns-in-Ok-clause-acts_on : goal.returns-in-Ok-clause-acts_on
returns-in-Ok-clause-acts_on g c =
    let state = g.P.Port.state in
    let old = point_in state c.args.self.now.session in
    let new = point_in state c.hand_out_all.new.self in
    acts_on_quiet c.args.self.now.access c.args.self.now.kept.items old new (step_hands c.args.self.now.access old new c.in-Ok.ensures.turns)

-- what was sent is taken back
pub returns-in-Err-clause-acts_on : goal.returns-in-Err-clause-acts_on
returns-in-Err-clause-acts_on g c =
    let state = g.P.Port.state in
    halts_here _ _ _ _
    (stopped_back c.len-before.result (point_in state c.args.self.now.session) (point_in state c.hand_out_all.new.self) _ (c.len-before.ensures ∙ c.args.self.now.session.sent.ok.0)
    c.in-Err.ensures.turns refl c.truncate.ensures.items)
