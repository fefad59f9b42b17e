use Rattle.std.proofs.Common.{◌≡◌, ◌++◌, drop, nat_eq}
use Rattle.dn_names.specs.Writing as spec
use Rattle.dn_names.proofs.writing.append_value.Given as goal

-- the bytes from here on are missing
abbrev pub invariant-loop-i : goal.invariant-loop-i
invariant-loop-i l = l.text.items ++ spec.bytes_text (nat_eq l.i 0) (drop l.i l.value) ≡ l.fn.text.items ++ spec.value_text l.value
