use Rattle.std.proofs.Common.{◌≡◌, ◌-◌, ◌≤◌, length}
use Rattle.ldif_text.specs.Lines.{from_content, left_at}
use Rattle.ldif_text.proofs.lines.content_place.Given as goal

-- the lines so far are blank
abbrev pub invariant-loop-line : goal.invariant-loop-line
invariant-loop-line l =
    record {
      left : from_content (left_at l.text l.fn.cursor) ≡ from_content (left_at l.text l.place);
      within : l.place.at ≤ length l.text;
    }

abbrev pub decreases-loop-line : goal.decreases-loop-line
decreases-loop-line l = length l.text - l.place.at
