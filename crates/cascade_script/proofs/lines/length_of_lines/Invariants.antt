use Rattle.std.proofs.Common.{◌≡◌, ◌≤◌, length, take}
use Rattle.std.specs.Str.Lines.{lines}
use Rattle.cascade_script.specs.Lines.{IsCutAt}
use Rattle.cascade_script.proofs.lines.length_of_lines.Given as goal

-- n lines stand before the place
abbrev pub invariant-loop-count : goal.invariant-loop-count
invariant-loop-count l =
    record {
      within : l.at ≤ length l.text;
      cut : IsCutAt l.text l.at;
      lines : length (lines (take l.at l.text)) ≡ l.count;
    }
