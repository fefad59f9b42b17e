use Rattle.std.proofs.Common.{◌≡◌, false, take}
use Rattle.std.specs.List.{list_any}
use Rattle.schema_rules.specs.Keys.{has_key}
use Rattle.schema_rules.proofs.keys.any_has_key.Given as goal

-- no value so far has the key
abbrev pub invariant-loop-value : goal.invariant-loop-value
invariant-loop-value l = list_any (has_key l.kind l.key) (take l.value-index l.values) ≡ false
