use Rattle.std.proofs.Common.{◌≡◌, ◌++◌, length}
use Rattle.dn_names.specs.Reading as spec
use Rattle.dn_names.proofs.name_chars.chars_of.Given as goal

-- the characters so far, and those of the rest
abbrev pub invariant-loop-name_char : goal.invariant-loop-name_char
invariant-loop-name_char l = spec.chars_of l.text ≡ l.chars.items ++ spec.chars_of l.rest

abbrev pub decreases-loop-name_char : goal.decreases-loop-name_char
decreases-loop-name_char l = length l.rest
