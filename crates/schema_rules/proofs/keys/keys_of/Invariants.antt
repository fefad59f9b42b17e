use Rattle.std.proofs.Common.{◌≡◌, take}
use Rattle.schema_rules.specs.Keys.{keys_of}
use Rattle.schema_rules.proofs.keys.keys_of.Given as goal

-- the keys of the values so far are there
abbrev pub invariant-loop-value : goal.invariant-loop-value
invariant-loop-value l = l.keys.items ≡ keys_of l.kind (take l.value-index l.values)
