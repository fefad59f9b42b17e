use Rattle.std.proofs.Common.{◌≡◌, ◌-◌, ◌≤◌, length, drop}
use Rattle.std.specs.List.{list_all}
use Rattle.std.specs.Str.{is_utf8}
use Rattle.std.specs.Str.Lines.{lines}
use Rattle.cascade_script.proofs.script.has_text_lines.Given as goal

-- the lines so far are UTF-8
abbrev pub invariant-loop-line : goal.invariant-loop-line
invariant-loop-line l =
    record {
      text : list_all is_utf8 (lines l.text) ≡ list_all is_utf8 (lines (drop l.place.at l.text));
      within : l.place.at ≤ length l.text;
    }

abbrev pub decreases-loop-line : goal.decreases-loop-line
decreases-loop-line l = length l.text - l.place.at
