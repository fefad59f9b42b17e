use Rattle.std.proofs.Common.{◌≡◌, take}
use Rattle.schema_rules.specs.Attributes.{classes_given}
use Rattle.schema_rules.proofs.entry_check.classes_given.Given as goal

-- the classes of the attributes so far are there
abbrev pub invariant-loop-attribute : goal.invariant-loop-attribute
invariant-loop-attribute l = l.classes.items ≡ classes_given (take l.attribute-index l.attributes)
