use Rattle.std.proofs.Common.{SFits, ap, rules, w64}
use Rattle.std.proofs.lemmas.Int.{to_z-of_z}
use Rattle.ldap_session.specs.Shown.{search_shown}
use Rattle.ldap_server.specs.Seen.{point_in}
use Rattle.ldap_server.proofs.Requested.{asked_abandon, asked_bind, asked_comparison, asked_extended, asked_response, asked_search, asked_unbind, asked_write}
use Rattle.ldap_server.proofs.session.Session.answer_tested.Goals as goal

pub returns-in-Bind-clause-answer : goal.returns-in-Bind-clause-answer
returns-in-Bind-clause-answer g c =
    let envelope = c.args.envelope.now in
    let state = g.P.Port.state in
    rw c.in-Bind.is
    (asked_bind c.args.access.now envelope.id envelope.controls.now envelope.now (point_in state c.args.self.now) (point_in state c.answer_bind.new.self) c.answer_bind.result
    c.in-Bind.version c.in-Bind.name c.in-Bind.authentication c.answer_bind.ensures.answer)

pub returns-in-Write-clause-answer : goal.returns-in-Write-clause-answer
returns-in-Write-clause-answer g c =
    let envelope = c.args.envelope.now in
    let state = g.P.Port.state in
    rw c.in-Write.is
    (asked_write c.args.access.now envelope.id envelope.controls.now envelope.now (point_in state c.args.self.now) (point_in state c.answer_write.new.self) c.answer_write.result
    c.in-Write.change c.answer_write.ensures.answer)

pub returns-in-Compare-clause-answer : goal.returns-in-Compare-clause-answer
returns-in-Compare-clause-answer g c =
    let envelope = c.args.envelope.now in
    let state = g.P.Port.state in
    rw c.in-Compare.is
    (asked_comparison c.args.access.now envelope.id envelope.controls.now envelope.now (point_in state c.args.self.now) (point_in state c.answer_comparison.new.self) c.answer_comparison.result
    c.in-Compare.entry c.in-Compare.name c.in-Compare.value c.answer_comparison.ensures.answer)

pub returns-in-Search-clause-answer : goal.returns-in-Search-clause-answer
returns-in-Search-clause-answer g c =
    let envelope = c.args.envelope.now in
    let state = g.P.Port.state in
    rw c.in-Search.is
    (asked_search c.args.access.now envelope.id envelope.controls.now envelope.now (point_in state c.args.self.now) (point_in state c.answer_search.new.self) c.answer_search.result
    (search_shown c.in-Search.search) c.answer_search.ensures.answer)

pub returns-in-Extended-clause-answer : goal.returns-in-Extended-clause-answer
returns-in-Extended-clause-answer g c =
    let envelope = c.args.envelope.now in
    let state = g.P.Port.state in
    rw c.in-Extended.is
    (asked_extended c.args.access.now envelope.id envelope.controls.now envelope.now (point_in state c.args.self.now) (point_in state c.answer_extended.new.self) c.answer_extended.result
    c.in-Extended.name c.in-Extended.value c.answer_extended.ensures.answer)

pub returns-in-Abandon-clause-answer : goal.returns-in-Abandon-clause-answer
returns-in-Abandon-clause-answer g c =
    let envelope = c.args.envelope.now in
    let fits : SFits w64 c.in-Abandon.target = search rules in
    rw c.in-Abandon.is (asked_abandon c.args.access.now envelope.id envelope.controls.now envelope.now c.in-Abandon.target _ _ (rw (to_z-of_z w64 c.in-Abandon.target fits) at c.abandon.ensures.answer))

pub returns-in-Unbind-clause-answer : goal.returns-in-Unbind-clause-answer
returns-in-Unbind-clause-answer g c =
    let envelope = c.args.envelope.now in
    rw c.in-Unbind.is (asked_unbind c.args.access.now envelope.id envelope.controls.now envelope.now (point_in g.P.Port.state c.args.self.now))

pub returns-in-Response-clause-home : goal.returns-in-Response-clause-home
returns-in-Response-clause-home g c = ap g.P.Port.home c.send_notice.ensures.port

pub returns-in-Response-clause-answer : goal.returns-in-Response-clause-answer
returns-in-Response-clause-answer g c =
    let envelope = c.args.envelope.now in
    let state = g.P.Port.state in
    rw c.in-Response.is
    (asked_response c.args.access.now envelope.id envelope.controls.now envelope.now (point_in state c.args.self.now) (point_in state c.send_notice.new.self) c.send_notice.result
    c.send_notice.ensures.sends)
