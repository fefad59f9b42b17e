use Rattle.std.proofs.Common.{◌≡◌, drop}
use Rattle.ldif_text.specs.Lines.{last_number}
use Rattle.ldif_text.proofs.lines.last_number.Given as goal

abbrev pub invariant-loop-line : goal.invariant-loop-line
invariant-loop-line l = last_number l.fn.number l.lines ≡ last_number l.number (drop l.line-index l.lines)
