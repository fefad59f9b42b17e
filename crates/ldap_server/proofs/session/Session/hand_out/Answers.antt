use Rattle.std.proofs.Common.{ap, ◌∙◌}
use Rattle.ldap_server.specs.Seen.{point_in}
use Rattle.ldap_server.proofs.Performing.{begun_none}
use Rattle.ldap_server.proofs.Together.{all_spelled, end_of_grammar, part_sent, turn_sent}
use Rattle.ldap_server.proofs.session.Session.hand_out.Goals as goal

pub returns-in_default-clause-turn : goal.returns-in_default-clause-turn
returns-in_default-clause-turn g c = begun_none (point_in g.P.Port.state c.args.self.now)

pub send_each-requires : goal.send_each-requires
send_each-requires g c =
    let state = g.P.Port.state in
    all_spelled c.args.search (point_in state c.args.self.now) (state c.hand_out_several-messages.new.self) c.hand_out_several-messages.result c.hand_out_several-messages.ensures.replies

pub send_last-requires : goal.send_last-requires
send_last-requires g c =
    let state = g.P.Port.state in
    end_of_grammar c.args.search (point_in state c.args.self.now) (state c.hand_out_several-messages.new.self) c.hand_out_several-messages.result c.hand_out_several-messages.ensures.replies

pub returns-in-Ok-send_each-clause-home : goal.returns-in-Ok-send_each-clause-home
returns-in-Ok-send_each-clause-home g c =
    ap g.P.Port.home (c.send_last.ensures.port ∙ c.in-Ok-send_each.ensures.port) ∙ c.hand_out_several-messages.ensures.home

pub returns-in-Ok-send_each-clause-turn : goal.returns-in-Ok-send_each-clause-turn
returns-in-Ok-send_each-clause-turn g c =
    let state = g.P.Port.state in
    turn_sent c.args.search (point_in state c.args.self.now) (state c.hand_out_several-messages.new.self) c.hand_out_several-messages.result c.hand_out_several-messages.ensures.replies
    (point_in state c.send_each.new.self) (point_in state c.send_last.new.self) c.in-Ok-send_each.ensures.sends c.send_last.result c.send_last.ensures.sends

pub returns-in-Err-clause-home : goal.returns-in-Err-clause-home
returns-in-Err-clause-home g c = ap g.P.Port.home c.in-Err.ensures.port ∙ c.hand_out_several-messages.ensures.home

pub returns-in-Err-clause-turn : goal.returns-in-Err-clause-turn
returns-in-Err-clause-turn g c =
    let state = g.P.Port.state in
    part_sent c.args.search (point_in state c.args.self.now) (state c.hand_out_several-messages.new.self) c.hand_out_several-messages.result c.hand_out_several-messages.ensures.replies
    (point_in state c.send_each.new.self) c.in-Err.ensures.sends
