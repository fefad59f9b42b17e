use Rattle.std.proofs.Common.{◌≡◌, ◌-◌, ◌^◌, min, take}
use Rattle.schema_rules.specs.Attributes as spec
use Rattle.schema_rules.proofs.weighed.weight_of.Given as goal

-- the attributes so far are weighed
abbrev pub invariant-loop-attribute : goal.invariant-loop-attribute
invariant-loop-attribute l = l.total ≡ min (spec.weight_of (take l.attribute-index l.attributes)) (2 ^ 64 - 1)
