use Rattle.std.proofs.Common.{◌≡◌, ◌+◌, ◌-◌, length, drop}
use Rattle.std.specs.Str.Lines.{lines}
use Rattle.cascade_script.specs.Reading.{IsPlace}
use Rattle.cascade_script.proofs.script.count_lines.Given as goal

-- the lines so far are counted
abbrev pub invariant-loop-next : goal.invariant-loop-next
invariant-loop-next l =
    record {
      count : length (lines l.text) ≡ l.place.number + length (lines (drop l.place.at l.text));
      place : IsPlace l.text l.place;
    }

abbrev pub decreases-loop-next : goal.decreases-loop-next
decreases-loop-next l = length l.text - l.place.at
