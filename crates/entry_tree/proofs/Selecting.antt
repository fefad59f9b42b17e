-- What is selected by one search twice is what it selects once, and searches that match select the same.
use Rattle.std.proofs.Common.{◌≡◌, true, false, ◌&&◌, cond, List, [], ◌∷◌, refl, ap, ◌∙◌, inl, inr}
use Rattle.std.proofs.lemmas.Bool.{cases_Bool, and_parts}
use Rattle.dn_names.specs.Names.{same_name}
use Rattle.dn_names.proofs.Alike.{name_as, child_as, Name, below_as}
use Rattle.ldap_filter.specs.Same.{same_tree}
use Rattle.ldap_filter.specs.Truth.{is_true, truth_on}
use Rattle.ldap_filter.proofs.Alike.{truth_as}
use Rattle.entry_tree.specs.Selection.{Search, is_in_scope, is_selected, select, is_same_scope, is_same_search}
use Rattle.entry_writes.specs.declared.entry.Entry.{Entry}
use Rattle.entry_tree.specs.declared.spec.Scope.{Scope}
use Rattle.entry_tree.specs.declared.spec.Scope.TheVariants.{Base, One, Sub}

scope_as : (scope scope' : Scope) (name one other : Name) → is_same_scope scope scope' ≡ true → same_name one other ≡ true → is_in_scope scope one name ≡ is_in_scope scope' other name
scope_as Base Base name one other scoped same = name_as name one other same
scope_as Base One name one other scoped same = let never : false ≡ true = scoped in cc
scope_as Base Sub name one other scoped same = let never : false ≡ true = scoped in cc
scope_as One Base name one other scoped same = let never : false ≡ true = scoped in cc
scope_as One One name one other scoped same = child_as name one other same
scope_as One Sub name one other scoped same = let never : false ≡ true = scoped in cc
scope_as Sub Base name one other scoped same = let never : false ≡ true = scoped in cc
scope_as Sub One name one other scoped same = let never : false ≡ true = scoped in cc
scope_as Sub Sub name one other scoped same = below_as name one other same

-- ---- what is selected

selected_as : (one other : Search) (e : Entry) → is_same_search one other ≡ true → is_selected one e ≡ is_selected other e
selected_as one other e same =
    let p = and_parts (same_name one.base other.base) (is_same_scope one.scope other.scope && same_tree one.filter other.filter) same in
    let q = and_parts (is_same_scope one.scope other.scope) (same_tree one.filter other.filter) p.1 in
    ap (λ b. b && is_true (truth_on e.attrs one.filter)) (scope_as one.scope other.scope e.dn one.base other.base q.0 p.0)
    ∙ ap (λ t. is_in_scope other.scope other.base e.dn && is_true t) (truth_as e.attrs one.filter other.filter q.1)

-- the same search selects the same
pub select_as : (one other : Search) (entries : List Entry) → is_same_search one other ≡ true → select one entries ≡ select other entries
select_as one other [] same = refl
select_as one other (e ∷ entries) same =
    ap (λ b. cond b (e ∷ select one entries) (select one entries)) (selected_as one other e same)
    ∙ ap (λ rest. cond (is_selected other e) (e ∷ rest) rest) (select_as one other entries same)

select_twice : (search : Search) (entries : List Entry) → select search (select search entries) ≡ select search entries
select_twice search [] = refl
select_twice search (e ∷ entries) =
    elim (cases_Bool (is_selected search e)) [
      | inl hit ↦ rw hit (rw hit (ap (λ rest. e ∷ rest) (select_twice search entries)))
      | inr miss ↦ rw miss (select_twice search entries)
    ]

-- what is selected of what the same search selected
pub select_through : (one other : Search) (entries : List Entry) → is_same_search one other ≡ true → select other (select one entries) ≡ select other entries
select_through one other entries same = ap (select other) (select_as one other entries same) ∙ select_twice other entries
