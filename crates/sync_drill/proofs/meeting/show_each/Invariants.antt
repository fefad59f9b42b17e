use Rattle.std.proofs.Common.{◌≡◌, ◌++◌}
use Rattle.std.specs.List.{AllZip}
use Rattle.sync_drill.specs.Going.{HasMetThis, IsAsBefore}
use Rattle.sync_drill.proofs.meeting.show_each.Given as goal

-- those so far have met it
abbrev pub invariant-loop-other : goal.invariant-loop-other
invariant-loop-other g l = record {
  first : IsAsBefore g.P.Port.home g.P.Port.state l.fn.first l.showing;
  met : AllZip (HasMetThis g.P.Port.home g.P.Port.state (g.P.Port.state l.fn.first)) l.yielded l.shown.items;
  all : l.fn.others.items ≡ l.yielded ++ l.other-iterator.rest.items;
}
