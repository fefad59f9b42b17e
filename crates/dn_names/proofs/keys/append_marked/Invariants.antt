use Rattle.std.proofs.Common.{◌≡◌, ◌++◌, drop}
use Rattle.dn_names.specs.Keys as spec
use Rattle.dn_names.proofs.keys.append_marked.Given as goal

-- the rest is missing
abbrev pub invariant-loop-byte : goal.invariant-loop-byte
invariant-loop-byte l = l.mark.items ++ spec.marked (drop l.byte-index l.bytes) ≡ l.fn.mark.items ++ spec.marked l.bytes
