use Rattle.std.proofs.Common.{◌≡◌, ◌++◌}
use Rattle.std.specs.List.{AllZip}
use Rattle.sync_drill.specs.Following.{IsBroughtUp}
use Rattle.sync_drill.specs.Going.{IsAsBefore}
use Rattle.sync_drill.proofs.following.settle_each.Given as goal

-- those so far are brought up
abbrev pub invariant-loop-following : goal.invariant-loop-following
invariant-loop-following g l = record {
  first : IsAsBefore g.P.Port.home g.P.Port.state l.fn.first l.seen;
  up : AllZip (IsBroughtUp g.P.Port.home g.P.Port.state (g.P.Port.state l.fn.first)) l.yielded l.settled.items;
  all : l.fn.followings.items ≡ l.yielded ++ l.following-iterator.rest.items;
}
