use Rattle.std.proofs.Common.{◌≡◌, drop}
use Rattle.ldif_text.specs.Field.{unspaced}
use Rattle.ldif_text.proofs.field.unspaced.Given as goal

-- the bytes so far are spaces
abbrev pub invariant-loop-i : goal.invariant-loop-i
invariant-loop-i l = unspaced l.bytes ≡ unspaced (drop l.i l.bytes)
