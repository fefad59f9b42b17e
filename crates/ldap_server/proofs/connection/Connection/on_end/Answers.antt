use Rattle.std.proofs.Common.{[], ap, ◌∙◌}
use Rattle.ldap_session.specs.declared.event.LinkEvent.TheVariants.{End}
use Rattle.ldap_server.specs.Seen.{connected_by, point_in}
use Rattle.ldap_server.specs.Session.{point_of}
use Rattle.ldap_server.proofs.Events.{handles_end, handles_over, none_by}
use Rattle.ldap_server.proofs.Performing.{session_is}
use Rattle.ldap_server.proofs.Steps.{step_leaves}
use Rattle.ldap_server.proofs.connection.Connection.on_end.Goals as goal

pub returns-in-Some-clause-handles : goal.returns-in-Some-clause-handles
returns-in-Some-clause-handles g c =
    rw (c.over.ensures.bytes, c.over.ensures.ended) (handles_over (connected_by g.P.Port.state c.args.self.now) End c.in-Some.ended c.in-Some.is)

pub returns-clause-home : goal.returns-clause-home
returns-clause-home g c = ap g.P.Port.home c.end_event.ensures.port ∙ c.drop_searches.ensures.home

pub returns-clause-handles : goal.returns-clause-handles
returns-clause-handles g c =
    let state = g.P.Port.state in
    let dropped = point_in state c.drop_searches.new.self in
    let old = connected_by state c.args.self.now in
    handles_end old (connected_by state c.end_event.new.self) dropped c.end_event.result.bytes c.end_event.result.ended
    (none_by _ c.in_default.not-Some) c.end_event.ensures.left c.end_event.ensures.bytes c.end_event.ensures.ended
    (step_leaves old.access (point_of old []) dropped c.drop_searches.ensures.drops
    (session_is _ _ _ _ c.drop_searches.ensures.bound c.drop_searches.ensures.searches) (c.drop_searches.ensures.sent ∙ c.clear.ensures.items))
