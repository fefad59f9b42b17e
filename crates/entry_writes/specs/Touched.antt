-- The identities whose entry a write changes.
use Rattle.std.specs.Prelude.{◌≡◌, ℕ, Bool, true, not, ◌&&◌, nat_lt, is_none, List, [], ◌∷◌, map, filter, fold, sum_by, Some}
use Rattle.std.specs.List.{filter_map, list_all}
use Rattle.std.specs.Ordering.{nat_cmp}
use Rattle.std.specs.BTreeSet.{insert_key}
use Rattle.csn_cookie.specs.Csn.{CsnValue}
use Rattle.dn_names.specs.Names.{TypeAndValue}
use Rattle.schema_rules.specs.declared.attributes.Attribute.{Attribute}
use Rattle.entry_writes.specs.declared.entry.Entry.{Entry}
use Rattle.entry_writes.specs.declared.touched.EntryChange.{EntryChange}
use Rattle.entry_writes.specs.Bytes.{is_one_found}
use Rattle.entry_writes.specs.Effects.{committed, moved}
use Rattle.entry_writes.specs.State.{ascends, entry_at, found_weight, total_weight, IsDirectory}

abbrev pub identities : List Entry → List ℕ
identities entries = map (λ e. e.uuid) entries

-- each identity is below those that follow
abbrev pub rises : List ℕ → Bool
rises [] = true
rises (uuid ∷ uuids) = list_all (nat_lt uuid) uuids && rises uuids

-- the numbers of both lists, ascending, each once, where the first list is so
abbrev pub joined : List ℕ → List ℕ → List ℕ
joined xs ys = fold (insert_key nat_cmp) xs ys

-- what an identity had, and what it has
abbrev pub change_at : List Entry → List Entry → ℕ → EntryChange
change_at old new uuid =
    record { uuid = uuid; before = entry_at old uuid; after = entry_at new uuid }

abbrev pub is_change : EntryChange → Bool
is_change entry_change = not (is_one_found entry_change.before entry_change.after)

-- what differs between two states, ascending by identity
abbrev pub touched : List Entry → List Entry → List EntryChange
touched old new =
    filter is_change (map (change_at old new) (joined (identities old) (identities new)))

-- what differs of these entries where `top` gets this name and these attributes and all below it
-- moves with it
abbrev pub move_changes :
    List Entry → Entry → List (List TypeAndValue) → List Attribute → CsnValue → List EntryChange
move_changes entries top name attrs csn =
    filter is_change
    (map
    (λ e. record { uuid = e.uuid; before = Some e; after = Some (moved top name attrs csn e) })
    entries)

-- ---- changes that are put in place

-- the entries that changes leave or make, and the identities that they leave without one
abbrev pub puts_of : List EntryChange → List Entry
puts_of changes = filter_map (λ entry_change. entry_change.after) changes

abbrev pub drops_of : List EntryChange → List ℕ
drops_of changes =
    map (λ entry_change. entry_change.uuid)
    (filter (λ entry_change. is_none entry_change.after) changes)

-- the entries after changes: each identity of these has what it has after them, the others stay
abbrev pub with_changes : List Entry → List EntryChange → List Entry
with_changes entries changes = committed entries (puts_of changes) (drops_of changes)

-- what the entries before changes weigh, and those after them
abbrev pub weight_before : List EntryChange → ℕ
weight_before changes = sum_by (λ entry_change. found_weight entry_change.before) changes

abbrev pub weight_after : List EntryChange → ℕ
weight_after changes = sum_by (λ entry_change. found_weight entry_change.after) changes

-- changes are exactly what differs after them, and they leave a directory
pub record CanBeMade (entries : List Entry) (changes : List EntryChange) : Type 0 where
  pub exact : changes ≡ touched entries (with_changes entries changes)
  pub directory :
      IsDirectory (with_changes entries changes) (total_weight (with_changes entries changes))

-- changes are what differs from entries in ascending order in those of a directory
pub record IsPlan (entries now : List Entry) (changes : List EntryChange) : Type 0 where
  pub ordered : ascends entries ≡ true
  pub exact : changes ≡ touched entries now
  pub directory : IsDirectory now (total_weight now)
