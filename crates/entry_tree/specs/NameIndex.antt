-- The parts of a tree: its entries by their identities, the identities of the entries by the path
-- keys of their names, and how many entries have each type otherwise than as their whole RDN.
use Rattle.std.specs.Prelude.{◌≡◌, ◌≤◌, ◌<◌, ℕ, Bool, true, false, not, ◌&&◌, ◌==◌, if◌then◌else◌, List, [], map, length, Option, Some, None, Vec, IfSome, nat_eq, nat_lt, bytes_eq}
use Rattle.std.proofs.Common.{Global}
use Rattle.std.specs.BTreeMap.{is_at}
use Rattle.std.specs.Cmp.Lexicographic.{slice_cmp}
use Rattle.std.specs.List.{filter, flat_map, list_any, starts_with}
use Rattle.std.specs.Map.{lookup, values_of}
use Rattle.std.specs.Ordering.{nat_cmp}
use Rattle.dn_names.specs.Paths.{path_key, HasPath}
use Rattle.entry_writes.specs.declared.entry.Entry.{Entry}
use Rattle.entry_writes.specs.declared.touched.EntryChange.{EntryChange}
use Rattle.entry_writes.specs.State.{entry_at, IsDirectory}
use Rattle.entry_tree.specs.Pinned.{CountsStrays}

-- ---- identities at path keys

abbrev pub Names : Type 0
Names = List (Vec ℕ Global × Vec ℕ Global)

-- what is found at a path key
abbrev pub found_at : Names → List ℕ → Option (Vec ℕ Global)
found_at names path =
    lookup (is_at (λ (key : Vec ℕ Global). slice_cmp nat_cmp path key.items)) names

abbrev pub listed : Option (Vec ℕ Global) → List ℕ
listed None = []
listed (Some ids) = ids.items

-- the identities that stand at a path key
abbrev pub ids_at : Names → List ℕ → List ℕ
ids_at names path = listed (found_at names path)

-- the identity stands at the path key
abbrev pub stands_at : Names → List ℕ → ℕ → Bool
stands_at names path uuid = list_any (nat_eq uuid) (ids_at names path)

-- no path key is without an identity
abbrev pub HasNoEmpty : Names → Type 0
HasNoEmpty names =
    (path : List ℕ) → IfSome (found_at names path) (λ (ids : Vec ℕ Global). 0 < length ids.items)

-- the identity stands at the path key or does not, and all else is as before
abbrev pub Sets : Names → Names → List ℕ → ℕ → Bool → Type 0
Sets old new path uuid stands =
    (other : List ℕ) (id : ℕ)
    → stands_at new other id
    ≡ (if bytes_eq path other && (id == uuid) then stands else stands_at old other id)

-- these identities alone stand at the path key, and all else is as before
abbrev pub Writes : Names → Names → List ℕ → List ℕ → Type 0
Writes old new path ids =
    (other : List ℕ) (id : ℕ)
    → stands_at new other id
    ≡ (if bytes_eq path other then list_any (nat_eq id) ids else stands_at old other id)

-- the least of these numbers, where there is one
abbrev pub IsLeast : List ℕ → Option ℕ → Type 0
IsLeast numbers None = (number : ℕ) → list_any (nat_eq number) numbers ≡ false
IsLeast numbers (Some least) =
    (list_any (nat_eq least) numbers ≡ true)
    × ((number : ℕ) → list_any (nat_eq number) numbers ≡ true → least ≤ number)

-- the lesser of a number, where there is one, and another
abbrev pub lesser : Option ℕ → ℕ → ℕ
lesser None other = other
lesser (Some one) other = if nat_lt one other then one else other

-- the path key begins with the other, and is longer
abbrev pub is_longer : List ℕ → List ℕ → Bool
is_longer path other = starts_with nat_eq path other && not (bytes_eq path other)

-- the answer is whether an identity stands at a path key that is longer than this one
abbrev pub IsLonger : Names → List ℕ → Bool → Type 0
IsLonger names path true =
    (longer : List ℕ) × (uuid : ℕ)
    × (is_longer longer path ≡ true)
    × (stands_at names longer uuid ≡ true)
IsLonger names path false =
    (longer : List ℕ) (uuid : ℕ)
    → is_longer longer path ≡ true
    → stands_at names longer uuid ≡ false

-- the pairs whose path keys begin with this one
abbrev pub within : Names → List ℕ → Names
within names path =
    filter
    (λ (pair : Vec ℕ Global × Vec ℕ Global). starts_with nat_eq pair.0.items path)
    names

-- the identities that stand at such path keys
abbrev pub ids_within : Names → List ℕ → List ℕ
ids_within names path =
    flat_map (λ (pair : Vec ℕ Global × Vec ℕ Global). pair.1.items) (within names path)

-- ---- the index of entries

-- where there is an entry, its name has a path key
abbrev pub HasPathKey : Option Entry → Type 0
HasPathKey found = IfSome found (λ e. HasPath e.dn)

-- there is an entry whose name has the path key
abbrev pub has_path : List ℕ → Option Entry → Bool
has_path path None = false
has_path path (Some e) = bytes_eq (path_key e.dn) path

-- the entry's name has the path key
abbrev pub has_path_key : List ℕ → Entry → Bool
has_path_key path e = bytes_eq (path_key e.dn) path

-- each identity stands at the path key of its entry's name, and nowhere else
pub record IsIndex (names : Names) (entries : List Entry) : Type 0 where
  pub exact :
      (path : List ℕ) (uuid : ℕ)
      → stands_at names path uuid ≡ has_path path (entry_at entries uuid)
  pub some : HasNoEmpty names
  pub named : (uuid : ℕ) → HasPathKey (entry_at entries uuid)

-- ---- changes of names

-- a change brings a name of this path key to this identity
abbrev pub comes : List ℕ → ℕ → List EntryChange → Bool
comes path uuid changes =
    list_any
    (λ change.
    (uuid == change.uuid) && (has_path path change.after && not (has_path path change.before)))
    changes

-- a change takes such a name from it
abbrev pub goes : List ℕ → ℕ → List EntryChange → Bool
goes path uuid changes =
    list_any
    (λ change.
    (uuid == change.uuid) && (has_path path change.before && not (has_path path change.after)))
    changes

-- what the change leaves or makes has a path key
abbrev pub BringsPathKey : EntryChange → Type 0
BringsPathKey change = HasPathKey change.after

-- ---- a tree

-- each entry at its identity
abbrev pub by_identity : List Entry → List (ℕ × Entry)
by_identity entries = map (λ (e : Entry). (e.uuid, e)) entries

-- what holds of the parts of a tree
pub record IsTree (entries : List (ℕ × Entry)) (names : Names) (weight : ℕ)
    (strays : List ℕ) : Type 0 where
  pub keyed : entries ≡ by_identity (values_of entries)
  pub directory : IsDirectory (values_of entries) weight
  pub index : IsIndex names (values_of entries)
  pub counted : CountsStrays strays (values_of entries)
