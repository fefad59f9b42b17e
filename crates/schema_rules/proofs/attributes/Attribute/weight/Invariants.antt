use Rattle.std.proofs.Common.{◌≡◌, ◌-◌, ◌^◌, min, take}
use Rattle.schema_rules.specs.Attributes as spec
use Rattle.schema_rules.specs.Schema.{type_name}
use Rattle.schema_rules.proofs.attributes.Attribute.weight.Given as goal

-- the values so far are weighed
abbrev pub invariant-loop-value : goal.invariant-loop-value
invariant-loop-value l = l.total ≡ min (spec.values_weight (type_name l.self.kind) (take l.value-index l.value-items)) (2 ^ 64 - 1)
