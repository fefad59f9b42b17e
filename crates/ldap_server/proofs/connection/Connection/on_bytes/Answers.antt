use Rattle.std.proofs.Common.{ap, ◌∙◌}
use Rattle.ldap_session.specs.declared.event.LinkEvent.TheVariants.{Piece}
use Rattle.ldap_server.specs.Seen.{connected_by}
use Rattle.ldap_server.proofs.Events.{handles_done, handles_over, none_by}
use Rattle.ldap_server.proofs.connection.Connection.on_bytes.Goals as goal

pub returns-in-Some-clause-handles : goal.returns-in-Some-clause-handles
returns-in-Some-clause-handles g c =
    rw (c.over.ensures.bytes, c.over.ensures.ended) (handles_over (connected_by g.P.Port.state c.args.self.now) _ c.in-Some.ended c.in-Some.is)

pub returns-clause-home : goal.returns-clause-home
returns-clause-home g c = ap g.P.Port.home c.end_event.ensures.port ∙ c.take_piece-done.ensures.home

pub returns-clause-handles : goal.returns-clause-handles
returns-clause-handles g c =
    let state = g.P.Port.state in
    handles_done (connected_by state c.args.self.now) (connected_by state c.take_piece-done.new.self) (connected_by state c.end_event.new.self) (Piece c.args.piece.now c.args.now) c.take_piece-done.result
    c.end_event.result.bytes c.take_piece-done.new.self.session.sent.items c.end_event.result.ended
    (none_by _ c.in_default.not-Some) c.take_piece-done.ensures.access c.end_event.ensures.left c.end_event.ensures.bytes c.end_event.ensures.ended
    (rw c.clear.ensures.items at c.take_piece-done.ensures.acts_on)
