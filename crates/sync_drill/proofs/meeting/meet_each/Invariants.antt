use Rattle.std.proofs.Common.{◌≡◌, ◌++◌}
use Rattle.std.specs.List.{AllZip}
use Rattle.sync_drill.specs.Going.{OthersCameIn, WasSeen}
use Rattle.sync_drill.proofs.meeting.meet_each.Given as goal

-- it has met those so far
abbrev pub invariant-loop-other : goal.invariant-loop-other
invariant-loop-other g l = record {
  home : g.P.Port.home l.meeting ≡ g.P.Port.home l.fn.first;
  came : OthersCameIn (g.P.Port.state l.fn.first) (g.P.Port.state l.meeting);
  seen : AllZip (WasSeen g.P.Port.home g.P.Port.state (g.P.Port.state l.meeting)) l.yielded l.met.items;
  all : l.fn.others.items ≡ l.yielded ++ l.other-iterator.rest.items;
}
