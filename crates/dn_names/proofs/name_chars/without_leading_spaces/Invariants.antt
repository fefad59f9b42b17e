use Rattle.std.proofs.Common.{◌≡◌, length}
use Rattle.dn_names.specs.Reading as spec
use Rattle.dn_names.proofs.name_chars.without_leading_spaces.Given as goal

-- only spaces were passed
abbrev pub invariant-loop-first : goal.invariant-loop-first
invariant-loop-first l = spec.without_leading_spaces l.chars ≡ spec.without_leading_spaces l.rest

abbrev pub decreases-loop-first : goal.decreases-loop-first
decreases-loop-first l = length l.rest
