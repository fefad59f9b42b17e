use Rattle.std.proofs.Common.{ap, drop, refl, ◌∙◌}
use Rattle.ldap_server.specs.Seen.{point_in}
use Rattle.ldap_server.proofs.Events.{halts_piece, acts_on_over, acts_on_then}
use Rattle.ldap_server.proofs.Steps.{halts_here, stopped_none}
use Rattle.ldap_server.proofs.connection.Connection.take_piece.Goals as goal

pub returns-in_default-clause-acts_on : goal.returns-in_default-clause-acts_on
returns-in_default-clause-acts_on g c = halts_here _ _ _ _ (stopped_none _)

-- a message ends the session
pub returns-in-Some-clause-acts_on : goal.returns-in-Some-clause-acts_on
returns-in-Some-clause-acts_on g c =
    let state = g.P.Port.state in
    let kept = rw c.in-Ok.is at c.extend_from_slice.ensures.items in
    acts_on_over c.args.self.now.access c.args.now c.args.self.now.kept.items c.args.piece.now c.in-Ok-answer_all.count c.in-Some.ended
    (point_in state c.args.self.now.session) (point_in state c.answer_all.new.self) _
    (rw (c.as_slice.ensures.value, kept, c.in-Some.is) at c.in-Ok-answer_all.ensures.answered)

-- the rest is kept, and messages are handed out
pub returns-in-None-clause-acts_on : goal.returns-in-None-clause-acts_on
returns-in-None-clause-acts_on g c =
    let state = g.P.Port.state in
    let count = c.in-Ok-answer_all.count in
    let kept = rw c.in-Ok.is at c.extend_from_slice.ensures.items in
    let answered = rw (c.as_slice.ensures.value, kept, c.in-None.is) at c.in-Ok-answer_all.ensures.answered in
    let rest = c.keep_rest.ensures ∙ ap (drop count) kept ∙ answered.rest refl in
    acts_on_then c.args.self.now.access c.args.now c.args.self.now.kept.items c.args.piece.now c.keep_rest.new.kept.items c.take_quiet.new.self.kept.items count
    (point_in state c.args.self.now.session) (point_in state c.answer_all.new.self) (point_in state c.take_quiet.new.self.session) c.take_quiet.result
    answered rest c.take_quiet.ensures.acts_on (ap (λ v. v.items) c.take_quiet.ensures.kept)

pub returns-in-Err-clause-acts_on : goal.returns-in-Err-clause-acts_on
returns-in-Err-clause-acts_on g c =
    let state = g.P.Port.state in
    let kept = rw c.in-Ok.is at c.extend_from_slice.ensures.items in
    halts_piece c.args.self.now.access c.args.now c.args.self.now.kept.items c.args.piece.now (point_in state c.args.self.now.session) (point_in state c.answer_all.new.self)
    (rw (c.as_slice.ensures.value, kept) at c.in-Err.ensures.answered)
