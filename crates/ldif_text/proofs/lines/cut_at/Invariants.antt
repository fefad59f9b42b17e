use Rattle.std.proofs.Common.{◌≡◌, ◌++◌, take, drop}
use Rattle.ldif_text.specs.Field.{cut}
use Rattle.ldif_text.proofs.lines.cut_at.Given as goal

abbrev pub invariant-loop-i : goal.invariant-loop-i
invariant-loop-i l = record { prefix : (cut l.mark l.bytes).0 ≡ take l.i l.bytes ++ (cut l.mark (drop l.i l.bytes)).0; back : (cut l.mark l.bytes).1 ≡ (cut l.mark (drop l.i l.bytes)).1 }
