use Rattle.std.proofs.Common.{◌≡◌, ◌≤◌, ◌-◌, ◌++◌, length, take, drop}
use Rattle.std.specs.Str.Lines.{lines}
use Rattle.cascade_script.specs.Lines.{IsCutAt}
use Rattle.cascade_script.specs.Reader.{body_of, after_body}
use Rattle.cascade_script.proofs.lines.body_length.Given as goal

-- the lines before the place belong to the record
abbrev pub invariant-loop-line : goal.invariant-loop-line
invariant-loop-line l =
    record {
      within : l.at ≤ length l.text;
      cut : IsCutAt l.text l.at;
      body : body_of (lines l.text) ≡ lines (take l.at l.text) ++ body_of (lines (drop l.at l.text));
      after : after_body (lines l.text) ≡ after_body (lines (drop l.at l.text));
    }

abbrev pub decreases-loop-line : goal.decreases-loop-line
decreases-loop-line l = length l.text - l.at
