use Rattle.std.proofs.Common.{◌≡◌, ◌++◌, take}
use Rattle.std.specs.List.{filter_map}
use Rattle.schema_rules.specs.Schema.{class_named}
use Rattle.schema_rules.proofs.entry_check.push_classes.Given as goal

-- the classes of the values so far are there
abbrev pub invariant-loop-value : goal.invariant-loop-value
invariant-loop-value l = l.classes.items ≡ l.initial.classes.items ++ filter_map class_named (take l.value-index l.values)
