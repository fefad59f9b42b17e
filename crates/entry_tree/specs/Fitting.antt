-- Commits that the entries of a directory have room for.
use Rattle.std.specs.Prelude.{◌≡◌, ◌<◌, ◌≤◌, Bool, true, false, not, ◌&&◌, nat_le, is_none, length, List, Some}
use Rattle.std.specs.List.{list_all}
use Rattle.schema_rules.specs.Attributes.{weight_of}
use Rattle.entry_tree.specs.declared.commit.CommitRefusal.{CommitRefusal}
use Rattle.entry_tree.specs.declared.commit.CommitRefusal.TheVariants.{TooMany, TooHeavy, SameName, NoMemory}
use Rattle.entry_writes.specs.declared.entry.Entry.{Entry}
use Rattle.entry_writes.specs.declared.op.Op.{Op}
use Rattle.entry_writes.specs.declared.op.Op.TheVariants.{Add, Delete, Modify, Rename, Commit}
use Rattle.entry_writes.specs.Effects.{committed}
use Rattle.entry_writes.specs.State.{most_entry_weight, most_entries, most_weight, total_weight, exceeds_limits, same_named}

-- an entry is no heavier than one of a directory may be
abbrev pub is_within_entry_limit : Entry → Bool
is_within_entry_limit e = nat_le (weight_of e.attrs) most_entry_weight

-- entries that a directory may have: no more and no heavier ones than its limits allow,
-- and no two of one name
abbrev pub is_directory_content : List Entry → Bool
is_directory_content entries = not (exceeds_limits entries) && is_none (same_named entries)

-- what a commit puts is light, and what it leaves may be held; of the other writes their codes
-- report
abbrev pub fits : List Entry → Op → Bool
fits entries (Add name attrs) = true
fits entries (Delete name) = true
fits entries (Modify name edits) = true
fits entries (Rename name rdn deletes superior) = true
fits entries (Commit puts drops) =
    list_all is_within_entry_limit puts && is_directory_content (committed entries puts drops)

-- what rejects entries that a directory may not have: their number, then their weight, then two
-- of one name; out of memory reports nothing
abbrev pub IsCauseOf : List Entry → CommitRefusal → Type 0
IsCauseOf entries TooMany = most_entries < length entries
IsCauseOf entries TooHeavy = (length entries ≤ most_entries) × (most_weight < total_weight entries)
IsCauseOf entries (SameName one other) =
    (exceeds_limits entries ≡ false) × (same_named entries ≡ Some (one, other))
IsCauseOf entries NoMemory = Unit {0}
