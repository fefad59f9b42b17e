use Rattle.sync_drill.proofs.FollowingSteps.{following-stays, following-twice}
use Rattle.sync_drill.proofs.following.Following.follow_to_end.Goals as goal

pub loop-init : goal.loop-init
loop-init g c = record {
  goes = following-stays g.P.Port.home g.P.Port.state c.args.self.now c.requires.halves;
  even = c.requires;
}

pub follow_one-requires : goal.follow_one-requires
follow_one-requires g c = c.loop.invariant.even

pub loop-preserved : goal.loop-preserved
loop-preserved g c = record {
  goes = following-twice g.P.Port.home g.P.Port.state c.args.self.now c.loop.self c.follow_one.new.self c.loop.invariant.goes c.follow_one.ensures.goes;
  even = c.in_ok-more.ensures.even;
}

pub returns-in_err-more-clause-goes : goal.returns-in_err-more-clause-goes
returns-in_err-more-clause-goes g c =
    following-twice g.P.Port.home g.P.Port.state c.args.self.now c.loop.self c.follow_one.new.self c.loop.invariant.goes c.follow_one.ensures.goes

pub returns-then-not-more-clause-goes : goal.returns-then-not-more-clause-goes
returns-then-not-more-clause-goes g c =
    following-twice g.P.Port.home g.P.Port.state c.args.self.now c.loop.self c.follow_one.new.self c.loop.invariant.goes c.follow_one.ensures.goes

pub returns-then-not-more-clause-even : goal.returns-then-not-more-clause-even
returns-then-not-more-clause-even g c = c.in_ok-more.ensures.even

pub returns-then-not-more-clause-done : goal.returns-then-not-more-clause-done
returns-then-not-more-clause-done g c = c.in_ok-more.ensures.done c.if-not-more.true
