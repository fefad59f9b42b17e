-- Which entries a search takes (RFC 4511, sections 4.5.1.1, 4.5.1.2 and 4.5.1.7).
use Rattle.std.specs.Prelude.{Bool, true, false, ◌&&◌, List, filter}
use Rattle.dn_names.specs.Names.{TypeAndValue, same_name, is_at_or_below, is_child_of}
use Rattle.ldap_filter.specs.Same.{same_tree}
use Rattle.ldap_filter.specs.FilterTree.{FilterTree, tree_of}
use Rattle.ldap_filter.specs.Truth.{truth_on, is_true}
use Rattle.entry_writes.specs.declared.entry.Entry.{Entry}
use Rattle.entry_tree.specs.declared.spec.Scope.{Scope}
use Rattle.entry_tree.specs.declared.spec.Scope.TheVariants.{Base, One, Sub}
use Rattle.entry_tree.specs.declared.spec.Spec.{Spec}

-- a specification, with its filter seen as a tree
pub record Search : Type 0 where
  pub base : List (List TypeAndValue)
  pub scope : Scope
  pub filter : FilterTree

abbrev pub search_of : Spec → Search
search_of spec = record { base = spec.base; scope = spec.scope; filter = tree_of spec.filter }

-- the base itself, the entries directly below it, or all at or below it
abbrev pub is_in_scope : Scope → List (List TypeAndValue) → List (List TypeAndValue) → Bool
is_in_scope Base base name = same_name name base
is_in_scope One base name = is_child_of name base
is_in_scope Sub base name = is_at_or_below name base

-- in the scope, and the filter is True, not False or Undefined
abbrev pub is_selected : Search → Entry → Bool
is_selected search e =
    is_in_scope search.scope search.base e.dn && is_true (truth_on e.attrs search.filter)

abbrev pub select : Search → List Entry → List Entry
select search entries = filter (is_selected search) entries

abbrev pub is_same_scope : Scope → Scope → Bool
is_same_scope Base Base = true
is_same_scope One One = true
is_same_scope Sub Sub = true
is_same_scope _ _ = false

-- equal bases, and the same scope and filter
abbrev pub is_same_search : Search → Search → Bool
is_same_search one other =
    same_name one.base other.base
    && (is_same_scope one.scope other.scope && same_tree one.filter other.filter)
