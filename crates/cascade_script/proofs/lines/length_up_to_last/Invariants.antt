use Rattle.std.proofs.Common.{◌≡◌, ◌≤◌, take}
use Rattle.cascade_script.specs.Lines.{up_to_last}
use Rattle.cascade_script.proofs.lines.length_up_to_last.Given as goal

abbrev pub invariant-loop-i : goal.invariant-loop-i
invariant-loop-i l =
    record {
      first_part : take l.length l.bytes ≡ up_to_last l.mark (take l.i l.bytes);
      within : l.length ≤ l.i;
    }
