use Rattle.std.proofs.Common.{◌≡◌, take, false}
use Rattle.std.specs.List.{list_any}
use Rattle.schema_rules.specs.Attributes.{repeats_value}
use Rattle.schema_rules.proofs.attributes.any_repeats.Given as goal

-- no attribute so far repeats a value
abbrev pub invariant-loop-attribute : goal.invariant-loop-attribute
invariant-loop-attribute l = list_any repeats_value (take l.attribute-index l.attributes) ≡ false
