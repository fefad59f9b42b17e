use Rattle.std.proofs.Common.{◌≡◌, take}
use Rattle.std.specs.List.{flat_map}
use Rattle.schema_rules.specs.Schema.{line_of}
use Rattle.schema_rules.proofs.entry_check.with_superiors.Given as goal

-- the lines of the classes so far are there
abbrev pub invariant-loop-class : goal.invariant-loop-class
invariant-loop-class l = l.all.items ≡ flat_map line_of (take l.class-index l.classes)
