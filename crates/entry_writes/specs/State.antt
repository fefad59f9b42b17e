-- The entries of a directory, in ascending order of identity (RFC 4512, section 2).
use Rattle.std.specs.Prelude.{◌≡◌, ◌≤◌, length, ℕ, Bool, true, not, ◌&&◌, ◌||◌, ◌==◌, ◌+◌, nat_lt, List, [], ◌∷◌, ◌++◌, filter, find, sum_by, Option, None, option_map, unwrap_or}
use Rattle.std.specs.Option.{option_or}
use Rattle.std.specs.List.{list_any, list_all}
use Rattle.schema_rules.specs.Attributes.{weight_of}
use Rattle.dn_names.specs.Names.{TypeAndValue, same_name, is_at_or_below, is_child_of}
use Rattle.entry_writes.specs.declared.entry.Entry.{Entry}

-- each identity is below those that follow
abbrev pub ascends : List Entry → Bool
ascends [] = true
ascends (e ∷ entries) = list_all (λ later. nat_lt e.uuid later.uuid) entries && ascends entries

-- ---- entries by identity

abbrev pub is_identified : ℕ → Entry → Bool
is_identified uuid e = e.uuid == uuid

abbrev pub entry_at : List Entry → ℕ → Option Entry
entry_at entries uuid = find (is_identified uuid) entries

-- the entries with this one in its place, where it replaces one of the same identity
abbrev pub put : Entry → List Entry → List Entry
put entry entries =
    filter (λ e. nat_lt e.uuid entry.uuid) entries
    ++ entry ∷ filter (λ e. nat_lt entry.uuid e.uuid) entries

-- ---- entries by name

abbrev pub is_named : List (List TypeAndValue) → Entry → Bool
is_named name e = same_name e.dn name

abbrev pub entry_named : List Entry → List (List TypeAndValue) → Option Entry
entry_named entries name = find (is_named name) entries

abbrev pub has_name : List Entry → List (List TypeAndValue) → Bool
has_name entries name = list_any (is_named name) entries

-- the parent of the name has an entry
abbrev pub has_parent : List Entry → List (List TypeAndValue) → Bool
has_parent entries name = list_any (λ e. is_child_of name e.dn) entries

-- an entry is below the name
abbrev pub has_below : List Entry → List (List TypeAndValue) → Bool
has_below entries name = list_any (λ e. is_at_or_below e.dn name && not (is_named name e)) entries

-- the pairs of a name's own RDN; the empty name has none
abbrev pub own_pairs : List (List TypeAndValue) → List TypeAndValue
own_pairs [] = []
own_pairs (rdn ∷ above) = rdn

-- ---- weights

-- what an entry weighs, where there is one
abbrev pub found_weight : Option Entry → ℕ
found_weight found = unwrap_or (option_map (λ (e : Entry). weight_of e.attrs) found) 0

abbrev pub total_weight : List Entry → ℕ
total_weight entries = sum_by (λ e. weight_of e.attrs) entries

-- the weight with other attributes of one of the entries
abbrev pub weight_with : List Entry → Entry → ℕ → ℕ
weight_with entries e weight =
    total_weight (filter (λ other. not (is_identified e.uuid other)) entries) + weight

-- the limits of a directory: the weight of an entry, the number of entries, and their weight
abbrev pub most_entry_weight : ℕ
most_entry_weight = 65536

abbrev pub most_entries : ℕ
most_entries = 200000

abbrev pub most_weight : ℕ
most_weight = 268435456

-- more entries than a directory may have, or heavier ones
abbrev pub exceeds_limits : List Entry → Bool
exceeds_limits entries =
    nat_lt most_entries (length entries) || nat_lt most_weight (total_weight entries)

-- the first entry whose name a later one has, with the first such
abbrev pub same_named : List Entry → Option (ℕ × ℕ)
same_named [] = None
same_named (entry ∷ entries) =
    option_or
    (option_map (λ (other : Entry). (entry.uuid, other.uuid)) (entry_named entries entry.dn))
    (same_named entries)

-- what holds of the entries of a directory and of the weight that is kept beside them
pub record IsDirectory (entries : List Entry) (weight : ℕ) : Type 0 where
  pub ascends : ascends entries ≡ true
  pub weighed : weight ≡ total_weight entries
  pub few : length entries ≤ most_entries
  pub light : weight ≤ most_weight
