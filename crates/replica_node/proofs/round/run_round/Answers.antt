use Rattle.std.proofs.Common.{arith, inr, refl, rules}
use Rattle.ldap_client.specs.Links.{link_by}
use Rattle.replica_node.specs.Following.{replica_at}
use Rattle.replica_node.specs.Rounds.{wanted_by}
use Rattle.replica_node.proofs.Rounding.{can_hang_up, round_linked, round_tried, round_unlinked}
use Rattle.replica_node.proofs.round.run_round.Goals as goal

-- a link came

pub follow_over-requires-clause-came : goal.follow_over-requires-clause-came
follow_over-requires-clause-came g c =
    let asked = c.in-Ok.ensures.asked (λ e. let never : ⊥ = cc in never) in
    let came = can_hang_up c.args.address.now (g.D.Dial.dialled c.args.dial.now) (g.D.Dial.dialled c.connect.new.self) (g.met.D.Dial.within c.args.dial.now) asked in
    search rules

pub returns-in-Ok-clause-round : goal.returns-in-Ok-clause-round
returns-in-Ok-clause-round g c =
    let state = link_by g.D.Link.Source.bytes_left g.D.Link.Source.bytes_read g.D.Link.Sink.bytes_held g.D.Link.Source.read_fault_count g.D.Link.Sink.write_fault_count in
    let now = c.follow_over.new in
    let old = replica_at c.args.consumer.now.copy (g.P.Port.state c.args.port.now) c.args.stored.now in
    let new = replica_at now.consumer.copy (g.P.Port.state now.port) now.stored in
    round_tried state (wanted_by c.args.consumer.now) c.args.address.now (g.D.Dial.dialled c.args.dial.now) (g.D.Dial.dialled now.dial) old new c.follow_over.result
    (round_linked state (wanted_by c.args.consumer.now) c.args.address.now (g.D.Dial.dialled c.args.dial.now) (g.D.Dial.dialled c.connect.new.self) (g.D.Dial.dialled now.dial) old new
    c.follow_over.result c.in-Ok.link (c.in-Ok.ensures.asked (λ e. let never : ⊥ = cc in never)) c.in-Ok.ensures.sound c.in-Ok.ensures.unused c.follow_over.ensures.follows)

pub returns-in-Ok-clause-later : goal.returns-in-Ok-clause-later
returns-in-Ok-clause-later g c = omega (arith, c.in-Ok.ensures.later, c.follow_over.ensures.later)

-- none came

pub returns-in-Err-Failed-clause-round : goal.returns-in-Err-Failed-clause-round
returns-in-Err-Failed-clause-round g c =
    let state = link_by g.D.Link.Source.bytes_left g.D.Link.Source.bytes_read g.D.Link.Sink.bytes_held g.D.Link.Source.read_fault_count g.D.Link.Sink.write_fault_count in
    let asked = rw c.in-Err-Failed.field-0-is at c.in-Err-Failed.ensures.asked in
    round_unlinked state (wanted_by c.args.consumer.now) c.args.address.now (g.D.Dial.dialled c.args.dial.now) (g.D.Dial.dialled c.connect.new.self)
    (replica_at c.args.consumer.now.copy (g.P.Port.state c.args.port.now) c.args.stored.now) (asked (λ e. let never : ⊥ = cc in never))

-- memory ran out before one was asked for

pub returns-in-Err-NoMemory-clause-round : goal.returns-in-Err-NoMemory-clause-round
returns-in-Err-NoMemory-clause-round g c =
    let unasked = rw c.in-Err-NoMemory.field-0-is at c.in-Err-NoMemory.ensures.unasked in
    inr (unasked refl, refl)
