use Rattle.std.proofs.Common.{◌≡◌, ◌++◌, map}
use Rattle.std.specs.List.{flat_map}
use Rattle.std.specs.BTreeSet.{btree_set_len}
use Rattle.dn_names.specs.Keys as spec
use Rattle.dn_names.proofs.keys.append_rdn_key.Given as goal

-- the marks that are left are missing
abbrev pub invariant-loop-mark : goal.invariant-loop-mark
invariant-loop-mark l =
    l.key.items ++ flat_map (λ text. text) (map (λ mark. mark.items) l.marks.keys)
    ≡ l.fn.key.items ++ flat_map (λ text. text) (spec.pair_set l.pairs)

abbrev pub decreases-loop-mark : goal.decreases-loop-mark
decreases-loop-mark l = btree_set_len l.marks
