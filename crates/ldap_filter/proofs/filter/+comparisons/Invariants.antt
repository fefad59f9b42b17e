use Rattle.std.proofs.Common.{◌≡◌, map, drop}
use Rattle.ldap_filter.specs.Same.{same_trees}
use Rattle.ldap_filter.specs.FilterTree.{tree_of, trees}
use Rattle.ldap_filter.proofs.filter.+comparisons.Given as goal

-- the lists are the same where what is left of them is
abbrev pub invariant-FilterList::same-loop-item : goal.invariant-FilterList::same-loop-item
invariant-FilterList::same-loop-item l =
    same_trees (trees (map tree_of (drop l.item-index l.item-items))) (trees (map tree_of l.others))
    ≡ same_trees (trees (map tree_of l.item-items)) (trees (map tree_of l.initial.others))
