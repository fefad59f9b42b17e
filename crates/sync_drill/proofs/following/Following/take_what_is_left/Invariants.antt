use Rattle.std.proofs.Common.{◌-◌}
use Rattle.link_rings.specs.Ends.{offered, AreOneRing}
use Rattle.sync_drill.specs.Following.{FollowingGoes, MayFollow}
use Rattle.sync_drill.proofs.LeftInRing.{HasLeft}
use Rattle.sync_drill.proofs.following.Following.take_what_is_left.Given as goal

-- the items that are left
abbrev pub invariant-loop-item : goal.invariant-loop-item
invariant-loop-item g l = record {
  goes : FollowingGoes g.P.Port.home g.P.Port.state l.fn.self l.self;
  halves : MayFollow g.P.Port.state l.self;
  ring : AreOneRing l.self.handing.producer l.self.taking.end;
  left : HasLeft (l.left - l._item) l.self.taking.end (offered l.self.handing.producer);
}
