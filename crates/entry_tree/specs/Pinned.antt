-- Names that an equality pins: where no entry has a type but as its whole RDN, an equality of that
-- type is True, directly below a base, of entries of one name alone.
use Rattle.std.specs.Prelude.{◌≡◌, ◌<◌, ℕ, Bool, true, false, cond, not, ◌&&◌, ◌==◌, List, [], ◌∷◌, length, sum_by, Option, Some, None, option_map, unwrap_or, All, bytes_eq, slice_index}
use Rattle.std.specs.List.{list_all, list_any, zip}
use Rattle.schema_rules.specs.declared.attributes.Attribute.{Attribute}
use Rattle.dn_names.specs.Names.{TypeAndValue, is_child_of}
use Rattle.dn_names.specs.Paths.{path_key}
use Rattle.ldap_filter.specs.FilterTree.{FilterTree}
use Rattle.ldap_filter.specs.Truth.{is_true, truth_on}
use Rattle.entry_writes.specs.declared.entry.Entry.{Entry}
use Rattle.entry_writes.specs.declared.touched.EntryChange.{EntryChange}
use Rattle.entry_writes.specs.State.{own_pairs}

-- ---- types that entries have otherwise than as their whole RDN

-- how many types the schema has
abbrev pub type_count : ℕ
type_count = 24

-- the attribute is of the pair's type, and each of its values is spelled as that of the pair
abbrev pub is_of_pair : TypeAndValue → Attribute → Bool
is_of_pair pair a =
    (pair.kind == a.kind) && list_all (λ value. bytes_eq value pair.value) a.values

-- it is all of an RDN of these pairs, of which there is one
abbrev pub is_whole_rdn : List TypeAndValue → Attribute → Bool
is_whole_rdn [] a = false
is_whole_rdn (pair ∷ []) a = is_of_pair pair a
is_whole_rdn (pair ∷ next ∷ pairs) a = false

-- an attribute of this type is not
abbrev pub is_astray : ℕ → List TypeAndValue → Attribute → Bool
is_astray kind own a = (a.kind == kind) && not (is_whole_rdn own a)

-- the entry has such an attribute
abbrev pub is_stray : ℕ → Entry → Bool
is_stray kind e = list_any (is_astray kind (own_pairs e.dn)) e.attrs

-- 1 where it has, and else 0
abbrev pub stray : ℕ → Entry → ℕ
stray kind e = cond (is_stray kind e) 1 0

-- how many entries have
abbrev pub strays_in : ℕ → List Entry → ℕ
strays_in kind entries = sum_by (stray kind) entries

-- where there is an entry: 1 if it has
abbrev pub found_stray : ℕ → Option Entry → ℕ
found_stray kind found = unwrap_or (option_map (stray kind) found) 0

-- how many of the entries before changes have, and of those after them
abbrev pub strays_before : ℕ → List EntryChange → ℕ
strays_before kind changes = sum_by (λ change. found_stray kind change.before) changes

abbrev pub strays_after : ℕ → List EntryChange → ℕ
strays_after kind changes = sum_by (λ change. found_stray kind change.after) changes

-- ---- changes that leave these numbers as they are

-- two attributes are of one type, and both are all of the RDN of their entries or none is
abbrev pub is_counterpart : List TypeAndValue → List TypeAndValue → Attribute → Attribute → Bool
is_counterpart own other a b =
    (a.kind == b.kind)
    && cond (is_whole_rdn own a) (is_whole_rdn other b) (not (is_whole_rdn other b))

-- one by one the attributes of entries with these RDNs are so
abbrev pub are_counterparts :
    List TypeAndValue → List Attribute → List TypeAndValue → List Attribute → Bool
are_counterparts own attrs other others =
    (length attrs == length others)
    && list_all (λ items. is_counterpart own other items.0 items.1) (zip attrs others)

abbrev pub have_counterparts : Entry → Entry → Bool
have_counterparts e d = are_counterparts (own_pairs e.dn) e.attrs (own_pairs d.dn) d.attrs

-- an entry is replaced by such a one
abbrev pub is_replaced : Option Entry → Option Entry → Bool
is_replaced None after = false
is_replaced (Some e) None = false
is_replaced (Some e) (Some d) = have_counterparts e d

abbrev pub keeps_types : EntryChange → Bool
keeps_types change = is_replaced change.before change.after

-- ---- how many there are

-- the numbers say how many entries have each type so
abbrev pub CountsStrays : List ℕ → List Entry → Type 0
CountsStrays strays entries =
    (kind : ℕ) → kind < type_count → slice_index strays kind ≡ strays_in kind entries

-- ---- what is pinned

-- each entry directly below the base for which the filter is True has a name with this path key
abbrev pub Pins : List (List TypeAndValue) → FilterTree → List Entry → List ℕ → Type 0
Pins base filter entries path =
    All
    (λ e.
    is_child_of e.dn base ≡ true
    → is_true (truth_on e.attrs filter) ≡ true
    → path_key e.dn ≡ path)
    entries
