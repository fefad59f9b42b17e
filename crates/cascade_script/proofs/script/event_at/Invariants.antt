use Rattle.std.proofs.Common.{◌≡◌, ◌-◌, ◌≤◌, length}
use Rattle.cascade_script.specs.Reader.{next_from}
use Rattle.cascade_script.specs.Reading.{left_at, IsPlace}
use Rattle.cascade_script.proofs.script.event_at.Given as goal

-- the lines so far are skipped
abbrev pub invariant-loop-text : goal.invariant-loop-text
invariant-loop-text l =
    record {
      reads : next_from l.limit l.fn.start.number (left_at l.bytes l.fn.start) ≡ next_from l.limit l.place.number (left_at l.bytes l.place);
      shorter : length (left_at l.bytes l.place) ≤ length (left_at l.bytes l.fn.start);
      place : IsPlace l.bytes l.place;
    }

abbrev pub decreases-loop-text : goal.decreases-loop-text
decreases-loop-text l = length l.bytes - l.place.at
