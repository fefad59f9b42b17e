use Rattle.std.proofs.Common.{◌≡◌, ◌++◌, ◌==◌, map}
use Rattle.std.specs.List.{after_first, flat_map}
use Rattle.std.specs.BTreeSet.{btree_set_len}
use Rattle.drill_plan.proofs.summary.push_texts.Given as goal

-- the texts that are left are missing
abbrev pub invariant-loop-first : goal.invariant-loop-first
invariant-loop-first l =
    l.text.items ++ flat_map (after_first (λ byte. byte == 0)) (map (λ each. each.items) l.named.keys)
    ≡ l.fn.text.items ++ flat_map (after_first (λ byte. byte == 0)) (map (λ each. each.items) l.fn.named.keys)

abbrev pub decreases-loop-first : goal.decreases-loop-first
decreases-loop-first l = btree_set_len l.named
