-- What a Rename changes and a search selects is at or below a name, so that only the entries there are read.
use Rattle.std.proofs.Common.{◌≡◌, ◌+◌, Bool, true, false, not, ◌&&◌, ◌||◌, cond, nat_eq, nat_lt, List, [], ◌∷◌, length, map, Some, None, sym, ap, refl, ◌∙◌}
use Rattle.std.specs.List.{filter, list_any}
use Rattle.std.proofs.lemmas.Bool.{and_parts, false≢true}
use Rattle.ldap_constants.specs.declared.result_codes.TheConstants.{ADMIN_LIMIT_EXCEEDED}
use Rattle.schema_rules.specs.declared.attributes.Attribute.{Attribute}
use Rattle.csn_cookie.specs.Csn.{CsnValue}
use Rattle.dn_names.specs.Names.{TypeAndValue, is_at_or_below, moved_name}
use Rattle.dn_names.specs.Sound.{most_rdns}
use Rattle.dn_names.proofs.Alike.{below_as}
use Rattle.dn_names.proofs.PathKeys.{child_is}
use Rattle.ldap_filter.specs.Truth.{is_true, truth_on}
use Rattle.entry_writes.specs.declared.entry.Entry.{Entry}
use Rattle.entry_writes.specs.declared.touched.EntryChange.{EntryChange}
use Rattle.entry_writes.specs.Codes.{length_code}
use Rattle.entry_writes.specs.Effects.{moved}
use Rattle.entry_writes.specs.State.{is_named}
use Rattle.entry_writes.specs.Touched.{is_change}
use Rattle.entry_writes.proofs.Identities.{stepped}
use Rattle.entry_writes.proofs.Same.{one_found-same}
use Rattle.entry_tree.specs.Selection.{Search, is_in_scope, is_selected, select}
use Rattle.entry_tree.specs.declared.spec.Scope.{Scope}
use Rattle.entry_tree.specs.declared.spec.Scope.TheVariants.{Base, One, Sub}
use Rattle.entry_tree.proofs.Moving.{below_itself}
use Rattle.entry_tree.proofs.Within.{is_below}

-- ---- a Rename

module _ (top : Entry) (name : List (List TypeAndValue)) (attrs : List Attribute) (csn : CsnValue) where
  abbrev change_of : Entry → EntryChange
  change_of = stepped (λ e. Some (moved top name attrs csn e))

  -- an entry that is not at or below the one does not change
  stays : (e : Entry) → is_at_or_below e.dn top.dn ≡ false → is_change (change_of e) ≡ false
  stays e out =
      ap (λ b. is_change (let x : EntryChange = record { uuid = e.uuid; before = Some e; after = Some (let y : Entry = cond b (record { uuid = e.uuid; csn = csn; dn = moved_name e.dn top.dn name; attrs = cond (nat_eq e.uuid top.uuid) attrs e.attrs }) e in y) } in x)) out
      ∙ ap not (one_found-same (Some e))

  -- what changes of the entries at or below it is what changes of all
  pub moved_within : (es : List Entry)
      → filter is_change (map (stepped (λ e. Some (moved top name attrs csn e))) (filter (λ e. is_at_or_below e.dn top.dn) es)) ≡ filter is_change (map (stepped (λ e. Some (moved top name attrs csn e))) es)
  moved_within [] = refl
  moved_within (e ∷ es) = by (is_at_or_below e.dn top.dn) refl (moved_within es)
    where
      changes : List Entry → List EntryChange
      changes xs = filter is_change (map change_of xs)

      by : (b : Bool) → is_at_or_below e.dn top.dn ≡ b → filter is_change (map change_of (filter (is_below top.dn) es)) ≡ filter is_change (map change_of es)
          → filter is_change (map change_of (cond b (e ∷ filter (is_below top.dn) es) (filter (is_below top.dn) es))) ≡ filter is_change (map change_of (e ∷ es))
      by true moves rest = ap (λ xs. cond (is_change (change_of e)) (change_of e ∷ xs) xs) rest
      by false out rest = rest ∙ sym (ap (λ b. cond b (change_of e ∷ filter is_change (map change_of es)) (filter is_change (map change_of es))) (stays e out))

-- a test that asks another passes none that the other does not
any_within : (p q : Entry → Bool) (es : List Entry) → list_any (λ e. p e && q e) (filter p es) ≡ list_any (λ e. p e && q e) es
any_within p q [] = refl
any_within p q (e ∷ es) = by (p e) refl (any_within p q es)
  where
    rest_of : List Entry → Bool
    rest_of xs = list_any (λ x. p x && q x) xs

    by : (b : Bool) → p e ≡ b → list_any (λ x. p x && q x) (filter p es) ≡ list_any (λ x. p x && q x) es
        → list_any (λ x. p x && q x) (cond b (e ∷ filter p es) (filter p es)) ≡ ((p e && q e) || list_any (λ x. p x && q x) es)
    by true inside rest = ap (λ b. (p e && q e) || b) rest
    by false out rest = rest ∙ sym (ap (λ b. (b && q e) || list_any (λ x. p x && q x) es) out)

-- too long a name of the entries at or below the one is one of all
pub long_within : (top : Entry) (name : List (List TypeAndValue)) (es : List Entry) → length_code (filter (λ e. is_at_or_below e.dn top.dn) es) top name ≡ length_code es top name
long_within top name es =
    ap (λ b. cond b (Some ADMIN_LIMIT_EXCEEDED) None)
    (any_within (is_below top.dn) (λ e. nat_lt most_rdns (length (moved_name e.dn top.dn name))) es)

-- ---- a search

-- those that pass are among those that pass another test, which each of them passes
filter_within : (p q : Entry → Bool) → ((e : Entry) → p e ≡ true → q e ≡ true) → (es : List Entry) → filter p (filter q es) ≡ filter p es
filter_within p q asks [] = refl
filter_within p q asks (e ∷ es) = by (q e) refl (p e) refl (filter_within p q asks es)
  where
    by : (b : Bool) → q e ≡ b → (c : Bool) → p e ≡ c → filter p (filter q es) ≡ filter p es → filter p (cond b (e ∷ filter q es) (filter q es)) ≡ cond c (e ∷ filter p es) (filter p es)
    by true inside c is rest = ap (λ d. cond d (e ∷ filter p (filter q es)) (filter p (filter q es))) is ∙ ap (λ xs. cond c (e ∷ xs) xs) rest
    by false out false is rest = rest
    by false out true is rest = absurd (false≢true (sym out ∙ asks e is))

-- the base itself and its children are at or below it
in_scope_below : (scope : Scope) (base name : List (List TypeAndValue)) → is_in_scope scope base name ≡ true → is_at_or_below name base ≡ true
in_scope_below Base base name is = sym (below_as name name base is) ∙ below_itself name
in_scope_below One base name is =
    let parts = and_parts (nat_eq (length name) (length base + 1)) (is_at_or_below name base) (sym (child_is name base) ∙ is) in
    parts.1
in_scope_below Sub base name is = is

selected_below : (search : Search) (e : Entry) → is_selected search e ≡ true → is_below search.base e ≡ true
selected_below search e is =
    let parts = and_parts (is_in_scope search.scope search.base e.dn) (is_true (truth_on e.attrs search.filter)) is in
    in_scope_below search.scope search.base e.dn parts.0

-- what is selected of entries that have all at or below the base is what is selected of all
pub select_within : (search : Search) (read es : List Entry) → filter (is_below search.base) read ≡ filter (is_below search.base) es → select search read ≡ select search es
select_within search read es same =
    sym (filter_within (is_selected search) (is_below search.base) (selected_below search) read)
    ∙ ap (filter (is_selected search)) same
    ∙ filter_within (is_selected search) (is_below search.base) (selected_below search) es

-- what is selected with the base alone is of the entries of its name
pub select_named : (search : Search) (es : List Entry) → search.scope ≡ Base → select search (filter (is_named search.base) es) ≡ select search es
select_named search es is = filter_within (is_selected search) (is_named search.base) own es
  where
    own : (e : Entry) → is_selected search e ≡ true → is_named search.base e ≡ true
    own e passes =
        let parts = and_parts (is_in_scope search.scope search.base e.dn) (is_true (truth_on e.attrs search.filter)) passes in
        ap (λ scope. is_in_scope scope search.base e.dn) (sym is) ∙ parts.0

-- those at or below a name, of those
pub below_again : (name : List (List TypeAndValue)) (es : List Entry) → filter (is_below name) (filter (is_below name) es) ≡ filter (is_below name) es
below_again name es = filter_within (is_below name) (is_below name) (λ e holds. holds) es
