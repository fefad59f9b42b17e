use Rattle.std.proofs.Common.{◌≡◌, ◌-◌, ◌^◌, min, take}
use Rattle.schema_rules.specs.Attributes as attributes
use Rattle.schema_rules.specs.Schema.{type_name}
use Rattle.directory_writes.proofs.weights.values_weight.Given as goal

-- the values so far are weighed
abbrev pub invariant-loop-value : goal.invariant-loop-value
invariant-loop-value l = l.total ≡ min (attributes.values_weight (type_name l.fn.kind) (take l.value-index l.value-items)) (2 ^ 64 - 1)
