use Rattle.sync_drill.proofs.FollowingSteps.{brought_up, following-twice, ring_goes}
use Rattle.sync_drill.proofs.Meetings.{begins-on}
use Rattle.sync_drill.proofs.following.Following.settle.Goals as goal

pub learn-requires : goal.learn-requires
learn-requires g c = record { shared = c.requires.may.shared; home = c.requires.may.its_home; halves = c.requires.halves }

pub take_what_is_left-requires : goal.take_what_is_left-requires
take_what_is_left-requires g c = record {
  ring = ring_goes g.P.Port.home g.P.Port.state c.args.self.now c.learn.new.self c.learn.ensures.goes c.requires.may.ring;
  halves = c.learn.ensures.halves;
}

pub follow_to_end-requires : goal.follow_to_end-requires
follow_to_end-requires g c = c.in_ok-take_what_is_left.ensures.even

pub close-requires : goal.close-requires
close-requires g c = c.in_ok-follow_to_end.ensures.even.halves.0

pub returns-in_err-take_what_is_left-clause-first : goal.returns-in_err-take_what_is_left-clause-first
returns-in_err-take_what_is_left-clause-first g c = c.learn.ensures.first

pub returns-in_err-follow_to_end-clause-first : goal.returns-in_err-follow_to_end-clause-first
returns-in_err-follow_to_end-clause-first g c = c.learn.ensures.first

pub returns-clause-first : goal.returns-clause-first
returns-clause-first g c = c.learn.ensures.first

pub returns-clause-up : goal.returns-clause-up
returns-clause-up g c =
    let home = g.P.Port.home in
    let state = g.P.Port.state in
    let old = c.args.self.now in
    let learnt = c.learn.new.self in
    let taken = c.take_what_is_left.new.self in
    let mid = c.follow_to_end.new.self in
    let seen = state c.args.first.now in
    let further = following-twice home state learnt taken mid c.take_what_is_left.ensures.goes c.follow_to_end.ensures.goes in
    brought_up home state old mid c.close.new.self seen c.requires.may.consumers
    (following-twice home state old learnt mid c.learn.ensures.goes further)
    c.in_ok-follow_to_end.ensures.even
    (begins-on seen (state learnt.handing.port) (state mid.handing.port) c.learn.ensures.seen further.handing.goes_on)
    c.in_ok-follow_to_end.ensures.done c.close.ensures.home c.close.ensures.goes_on c.close.ensures.resting c.close.ensures.same.0
