use Rattle.std.proofs.Common.{refl, sym}
use Rattle.ldap_constants.specs.declared.object_identifiers.TheConstants.{SYNC_REQUEST}
use Rattle.ldap_session.specs.Shown.{search_shown}
use Rattle.ldap_server.specs.Seen.{point_in}
use Rattle.ldap_parts.specs.Controls.{control_named}
use Rattle.ldap_server.proofs.Searched.{selected_plain, selected_sync}
use Rattle.ldap_server.proofs.session.Session.answer_based.Goals as goal

pub returns-in-Some-clause-answer : goal.returns-in-Some-clause-answer
returns-in-Some-clause-answer g c =
    let state = g.P.Port.state in
    selected_sync c.args.id c.args.base (search_shown c.args.asked) (control_named SYNC_REQUEST.now c.args.controls.now) c.in-Some.control.now _
    (point_in state c.args.self.now) (point_in state c.answer_sync.new.self) c.answer_sync.result
    (sym c.in-Some.ensures) (record { base_is = refl; scope_is = c.scope_of.ensures; filter_is = refl }) refl refl c.answer_sync.ensures.answer

pub returns-clause-answer : goal.returns-clause-answer
returns-clause-answer g c =
    let state = g.P.Port.state in
    selected_plain c.args.id c.args.base (search_shown c.args.asked) (control_named SYNC_REQUEST.now c.args.controls.now) _
    (point_in state c.args.self.now) (point_in state c.answer_plain.new.self) c.answer_plain.result
    (sym c.in-None.ensures) (record { base_is = refl; scope_is = c.scope_of.ensures; filter_is = refl }) refl c.answer_plain.ensures.answer
