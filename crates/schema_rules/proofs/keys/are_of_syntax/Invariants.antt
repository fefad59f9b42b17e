use Rattle.std.proofs.Common.{◌≡◌, take, true}
use Rattle.std.specs.List.{list_all}
use Rattle.schema_rules.specs.Attributes.{is_of_syntax}
use Rattle.schema_rules.proofs.keys.are_of_syntax.Given as goal

-- the values so far are of the syntax
abbrev pub invariant-loop-value : goal.invariant-loop-value
invariant-loop-value l = list_all (is_of_syntax l.kind) (take l.value-index l.values) ≡ true
