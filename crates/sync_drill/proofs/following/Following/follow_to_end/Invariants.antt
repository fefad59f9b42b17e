use Rattle.sync_drill.specs.Following.{FollowingGoes, IsEven}
use Rattle.sync_drill.proofs.following.Following.follow_to_end.Given as goal

abbrev pub invariant-loop : goal.invariant-loop
invariant-loop g l = record {
  goes : FollowingGoes g.P.Port.home g.P.Port.state l.fn.self l.self;
  even : IsEven g.P.Port.state l.self;
}
