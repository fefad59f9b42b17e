use Rattle.std.proofs.Common.{◌≡◌, map, take}
use Rattle.ldap_filter.specs.FilterTree.{tree_of}
use Rattle.ldap_filter.proofs.filter.+copies.Given as goal

-- the filters so far are copied
abbrev pub invariant-FilterList::copy-loop-item : goal.invariant-FilterList::copy-loop-item
invariant-FilterList::copy-loop-item l = map tree_of l.items.items ≡ map tree_of (take l.item-index l.item-items)
