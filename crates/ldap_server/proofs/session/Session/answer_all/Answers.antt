use Rattle.std.proofs.Common.{arith, refl, length-drop, ◌∙◌}
use Rattle.ldap_server.specs.Seen.{point_in}
use Rattle.ldap_server.proofs.Going.{answered_all, answered_halts, answered_over, going_none, going_on}
use Rattle.ldap_server.proofs.session.Session.answer_all.Goals as goal

pub loop-count-init : goal.loop-count-init
loop-count-init g c = record { home = refl; going = going_none c.args.access.now c.args.now c.args.bytes.now (point_in g.P.Port.state c.args.self.now) }

pub split_at-requires : goal.split_at-requires
split_at-requires g c = c.loop-count.invariant.going.within

pub loop-count-preserved : goal.loop-count-preserved
loop-count-preserved g c =
    let state = g.P.Port.state in
    record {
      home = c.in-Ok-Message.ensures.home ∙ c.loop-count.invariant.home;
      going = going_on c.args.access.now c.args.now c.args.bytes.now c.loop-count.place c.in-Ok-Message.count
          (point_in state c.args.self.now) (point_in state c.loop-count.self) (point_in state c.answer_next.new.self) c.loop-count.invariant.going
          (rw (c.in-Ok-Message.field-0-is, c.split_at.ensures.back) at c.in-Ok-Message.ensures.follows);
    }

pub loop-count-smaller : goal.loop-count-smaller
loop-count-smaller g c =
    let follows = rw (c.in-Ok-Message.field-0-is, c.split_at.ensures.back) at c.in-Ok-Message.ensures.follows in
    omega (arith, follows.2, follows.3, c.loop-count.invariant.going.within, length-drop c.loop-count.place c.args.bytes.now)

pub overflow_add-place : goal.overflow_add-place
overflow_add-place g c =
    let follows = rw (c.in-Ok-Message.field-0-is, c.split_at.ensures.back) at c.in-Ok-Message.ensures.follows in
    omega (arith, follows.2, follows.3, c.loop-count.invariant.going.within, length-drop c.loop-count.place c.args.bytes.now)

pub returns-in-Ok-Rest-clause-home : goal.returns-in-Ok-Rest-clause-home
returns-in-Ok-Rest-clause-home g c = c.in-Ok-Rest.ensures.home ∙ c.loop-count.invariant.home

pub returns-in-Ok-Rest-clause-answered : goal.returns-in-Ok-Rest-clause-answered
returns-in-Ok-Rest-clause-answered g c =
    let state = g.P.Port.state in
    answered_all c.args.access.now c.args.now c.args.bytes.now c.loop-count.place
    (point_in state c.args.self.now) (point_in state c.loop-count.self) (point_in state c.answer_next.new.self) c.loop-count.invariant.going
    (rw (c.in-Ok-Rest.field-0-is, c.split_at.ensures.back) at c.in-Ok-Rest.ensures.follows)

pub returns-in-Ok-Over-clause-home : goal.returns-in-Ok-Over-clause-home
returns-in-Ok-Over-clause-home g c = c.in-Ok-Over.ensures.home ∙ c.loop-count.invariant.home

pub returns-in-Ok-Over-clause-answered : goal.returns-in-Ok-Over-clause-answered
returns-in-Ok-Over-clause-answered g c =
    let state = g.P.Port.state in
    answered_over c.args.access.now c.args.now c.args.bytes.now c.loop-count.place c.in-Ok-Over.ended
    (point_in state c.args.self.now) (point_in state c.loop-count.self) (point_in state c.answer_next.new.self) c.loop-count.invariant.going
    (rw (c.in-Ok-Over.field-0-is, c.split_at.ensures.back) at c.in-Ok-Over.ensures.follows)

pub returns-in-Err-clause-home : goal.returns-in-Err-clause-home
returns-in-Err-clause-home g c = c.in-Err.ensures.home ∙ c.loop-count.invariant.home

pub returns-in-Err-clause-answered : goal.returns-in-Err-clause-answered
returns-in-Err-clause-answered g c =
    let state = g.P.Port.state in
    answered_halts c.args.access.now c.args.now c.args.bytes.now c.loop-count.place
    (point_in state c.args.self.now) (point_in state c.loop-count.self) (point_in state c.answer_next.new.self) c.loop-count.invariant.going c.in-Err.ensures.follows
