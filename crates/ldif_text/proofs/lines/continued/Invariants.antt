use Rattle.std.proofs.Common.{◌≡◌, ◌-◌, ◌≤◌, false, length}
use Rattle.ldif_text.specs.Lines.{onto, left_at, is_empty}
use Rattle.ldif_text.proofs.lines.continued.Given as goal

-- the lines so far are joined to the first
abbrev pub invariant-loop-rest : goal.invariant-loop-rest
invariant-loop-rest l =
    record {
      joined : onto l.line (left_at l.text l.fn.cursor) ≡ onto (record { first = l.line.first; last = l.last; text = l.whole.items }) (left_at l.text l.place);
      filled : is_empty l.whole.items ≡ false;
      later : l.fn.cursor.at ≤ l.place.at;
      within : l.place.at ≤ length l.text;
    }

abbrev pub decreases-loop-rest : goal.decreases-loop-rest
decreases-loop-rest l = length l.text - l.place.at
