use Rattle.std.proofs.Common.{◌≡◌, ◌-◌, ◌≤◌, ◌++◌, length}
use Rattle.ldif_text.specs.Lines.{record_lines, after_record, left_at}
use Rattle.ldif_text.proofs.lines.record_lines.Given as goal

-- the lines so far belong to the record
abbrev pub invariant-loop-lines : goal.invariant-loop-lines
invariant-loop-lines l =
    record {
      lines : record_lines (left_at l.text l.fn.cursor) ≡ l.lines.items ++ record_lines (left_at l.text l.place);
      left : after_record (left_at l.text l.fn.cursor) ≡ after_record (left_at l.text l.place);
      within : l.place.at ≤ length l.text;
    }

abbrev pub decreases-loop-lines : goal.decreases-loop-lines
decreases-loop-lines l = length l.text - l.place.at
