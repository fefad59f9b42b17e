-- What a commit is judged by where no two entries before it have one name: the changes that it
-- makes.
use Rattle.std.specs.Prelude.{◌≡◌, ℕ, ◌+◌, ◌≤◌, Bool, true, false, ◌==◌, length, List, Option, Some, None}
use Rattle.std.specs.List.{filter_map, list_all, list_any}
use Rattle.dn_names.specs.Names.{same_name}
use Rattle.entry_writes.specs.declared.entry.Entry.{Entry}
use Rattle.entry_writes.specs.declared.touched.EntryChange.{EntryChange}
use Rattle.entry_writes.specs.State.{entry_at, entry_named, most_entries, most_weight, same_named, total_weight}
use Rattle.entry_writes.specs.Touched.{puts_of}

-- what an identity has among the entries, and what it has in others
abbrev pub change_by : List Entry → (ℕ → Option Entry) → ℕ → EntryChange
change_by entries others uuid =
    record { uuid = uuid; before = entry_at entries uuid; after = others uuid }

-- the entries that changes remove or replace
abbrev pub takes_of : List EntryChange → List Entry
takes_of changes = filter_map (λ entry_change. entry_change.before) changes

-- the identity is one of those that change
abbrev pub is_changed : List EntryChange → ℕ → Bool
is_changed changes uuid = list_any (λ entry_change. uuid == entry_change.uuid) changes

-- a name is free where no entry has it, or one that changes
abbrev pub is_free : List EntryChange → Option Entry → Bool
is_free changes None = true
is_free changes (Some holder) = is_changed changes holder.uuid

abbrev pub has_free_name : List Entry → List EntryChange → Entry → Bool
has_free_name entries changes e = is_free changes (entry_named entries e.dn)

-- what an identity has is of the name of this entry
abbrev pub keeps_name : Option Entry → Entry → Bool
keeps_name None e = false
keeps_name (Some was) e = same_name was.dn e.dn

-- the entries after the changes are no more and no heavier than a directory may have, each that the
-- changes leave or make has a name that is free, and no two of these have one name
pub record AreClear (entries : List Entry) (changes : List EntryChange) : Type 0 where
  pub few : length entries + length (puts_of changes) ≤ most_entries + length (takes_of changes)
  pub light :
      total_weight entries + total_weight (puts_of changes)
      ≤ most_weight + total_weight (takes_of changes)
  pub free : list_all (has_free_name entries changes) (puts_of changes) ≡ true
  pub unique_names : same_named (puts_of changes) ≡ None
