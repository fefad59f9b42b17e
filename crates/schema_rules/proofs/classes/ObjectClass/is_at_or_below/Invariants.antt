use Rattle.std.proofs.Common.{◌≡◌, ◌==◌}
use Rattle.std.specs.List.{list_any}
use Rattle.schema_rules.specs.Schema.{line_of, line_from, height}
use Rattle.schema_rules.proofs.classes.ObjectClass.is_at_or_below.Given as goal

-- the class is on the line where it is on the part from the next class on
abbrev pub invariant-loop-next : goal.invariant-loop-next
invariant-loop-next l =
    list_any (λ class. class == l.other) (line_from l.next) ≡ list_any (λ class. class == l.other) (line_of l.self)

abbrev pub decreases-loop-next : goal.decreases-loop-next
decreases-loop-next l = height l.next
