use Rattle.std.proofs.Common.{◌≡◌, length}
use Rattle.dn_names.specs.Reading as spec
use Rattle.dn_names.proofs.name_chars.without_trailing_spaces.Given as goal

-- only spaces were passed
abbrev pub invariant-loop-last : goal.invariant-loop-last
invariant-loop-last l = spec.without_trailing_spaces l.chars ≡ spec.without_trailing_spaces l.rest

abbrev pub decreases-loop-last : goal.decreases-loop-last
decreases-loop-last l = length l.rest
