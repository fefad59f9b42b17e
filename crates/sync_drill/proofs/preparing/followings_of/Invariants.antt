use Rattle.std.proofs.Common.{◌≡◌, ◌++◌, length}
use Rattle.std.specs.List.{AllZip}
use Rattle.sync_drill.specs.Drilled.{EachAt}
use Rattle.sync_drill.specs.Following.{BeginsAt, IsFollowing}
use Rattle.sync_drill.proofs.preparing.followings_of.Given as goal

-- the consumers at the ports so far
abbrev pub invariant-loop-port : goal.invariant-loop-port
invariant-loop-port g l = record {
  place : l.consumer ≡ length l.yielded;
  begin : AllZip (BeginsAt g.P.Port.home g.P.Port.state) l.yielded l.followings.items;
  follow : EachAt (IsFollowing g.P.Port.state) 0 l.followings.items;
  all : l.fn.ports.items ≡ l.yielded ++ l.port-iterator.rest.items;
}
