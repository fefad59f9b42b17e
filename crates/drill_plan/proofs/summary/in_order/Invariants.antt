use Rattle.std.proofs.Common.{◌≡◌, map, take}
use Rattle.drill_plan.specs.Plain.{plain_of_each}
use Rattle.drill_plan.specs.Summary as spec
use Rattle.drill_plan.proofs.summary.in_order.Given as goal

-- the set of the texts of the entries so far
abbrev pub invariant-loop-entry : goal.invariant-loop-entry
invariant-loop-entry l =
    map (λ each. each.items) l.named.keys ≡ spec.in_order (plain_of_each (map (λ e. e.now) (take l.entry-index l.entries)))
