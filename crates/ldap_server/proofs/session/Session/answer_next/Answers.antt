use Rattle.std.proofs.Common.{refl, ◌∙◌}
use Rattle.ldap_server.specs.Seen.{point_in}
use Rattle.ldap_server.proofs.Performing.{stopped_back}
use Rattle.ldap_server.proofs.session.Session.answer_next.Goals as goal

-- what was sent of its answer is taken back
pub returns-in-Err-clause-follows : goal.returns-in-Err-clause-follows
returns-in-Err-clause-follows g c =
    let state = g.P.Port.state in
    stopped_back c.len-before.result (point_in state c.args.self.now) (point_in state c.answer_first.new.self) _ (c.len-before.ensures ∙ c.args.self.now.sent.ok.0)
    c.in-Err.ensures.follows refl c.truncate.ensures.items
