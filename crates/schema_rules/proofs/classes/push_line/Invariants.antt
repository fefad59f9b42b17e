use Rattle.std.proofs.Common.{◌≡◌, ◌++◌}
use Rattle.schema_rules.specs.Schema.{line_of, line_from, height}
use Rattle.schema_rules.proofs.classes.push_line.Given as goal

-- the part of the line so far, and what follows from the next class on
abbrev pub invariant-loop-next : goal.invariant-loop-next
invariant-loop-next l = (l.line.items ++ line_from l.next) ≡ (l.initial.line.items ++ line_of l.fn.class)

abbrev pub decreases-loop-next : goal.decreases-loop-next
decreases-loop-next l = height l.next
