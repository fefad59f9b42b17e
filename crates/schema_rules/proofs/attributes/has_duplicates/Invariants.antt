use Rattle.std.proofs.Common.{◌≡◌, length}
use Rattle.schema_rules.specs.Attributes.{has_duplicates}
use Rattle.schema_rules.proofs.attributes.has_duplicates.Given as goal

-- a key comes twice where it does in the rest
abbrev pub invariant-loop-key : goal.invariant-loop-key
invariant-loop-key l = has_duplicates l.rest ≡ has_duplicates l.initial.rest

abbrev pub decreases-loop-key : goal.decreases-loop-key
decreases-loop-key l = length l.rest
