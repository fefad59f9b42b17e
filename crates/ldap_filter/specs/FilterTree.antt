-- A filter without where it lies in memory (RFC 4511, section 4.5.1.7).
use Rattle.std.specs.Prelude.{ℕ, suc, max, List, [], ◌∷◌, Option}
use Rattle.ldap_filter.specs.declared.filter.Filter.{Filter}
use Rattle.ldap_filter.specs.declared.filter.FilterList.{FilterList, out-FilterList}
use Rattle.ldap_filter.specs.declared.filter.Filter.TheOpen as open'
use Rattle.ldap_filter.specs.declared.filter.Filter.TheOpen.{Filter-F}
use Rattle.ldap_filter.specs.declared.filter.Filter.TheFolds.{fold-Filter}

mutual
  pub data FilterTree : Type 0 where
    all_of : Trees → FilterTree
    any_of : Trees → FilterTree
    negated : FilterTree → FilterTree
    equal : List ℕ → List ℕ → FilterTree
    substrings : List ℕ → Option (List ℕ) → List (List ℕ) → Option (List ℕ) → FilterTree
    at_least : List ℕ → List ℕ → FilterTree
    at_most : List ℕ → List ℕ → FilterTree
    present : List ℕ → FilterTree
    approx : List ℕ → List ℕ → FilterTree
    extensible : List ℕ → FilterTree

  pub data Trees : Type 0 where
    no_trees : Trees
    more_trees : FilterTree → Trees → Trees

abbrev pub trees : List FilterTree → Trees
trees [] = no_trees
trees (t ∷ ts) = more_trees t (trees ts)

abbrev pub listed : Trees → List FilterTree
listed no_trees = []
listed (more_trees t ts) = t ∷ listed ts

-- one filter, with the tree of each part in its place
abbrev pub tree_step : Filter-F FilterTree (List FilterTree) → FilterTree
tree_step (open'.And parts) = all_of (trees parts)
tree_step (open'.Or parts) = any_of (trees parts)
tree_step (open'.Not part) = negated part.value
tree_step (open'.Equal item) = equal item.name item.value
tree_step (open'.Substrings name pieces) = substrings name pieces.initial pieces.middle pieces.last
tree_step (open'.AtLeast name value) = at_least name value
tree_step (open'.AtMost name value) = at_most name value
tree_step (open'.Present name) = present name
tree_step (open'.Approx item) = approx item.name item.value
tree_step (open'.Extensible body) = extensible body

abbrev pub tree_of : Filter → FilterTree
tree_of = fold-Filter FilterTree (List FilterTree) tree_step (λ l. l.items.items)

-- the filters of a list
abbrev pub parts_of : FilterList → List Filter
parts_of list = (out-FilterList list).items.items

-- how deep filters stand in one another: an item and an empty list are one level
abbrev mutual
  pub depth : FilterTree → ℕ
  depth (all_of ts) = suc (deepest ts)
  depth (any_of ts) = suc (deepest ts)
  depth (negated t) = suc (depth t)
  depth (equal name value) = 1
  depth (substrings name initial middle last) = 1
  depth (at_least name value) = 1
  depth (at_most name value) = 1
  depth (present name) = 1
  depth (approx name value) = 1
  depth (extensible body) = 1

  pub deepest : Trees → ℕ
  deepest no_trees = 0
  deepest (more_trees t ts) = max (depth t) (deepest ts)
