-- Which writes touch an entry: those after which what its identity has differs
-- from what it had before.
use Rattle.std.specs.Prelude.{ℕ, Bool, ◌&&◌, not, ◌==◌, if◌then◌else◌, zero, suc, ◌+◌, cond, List, [], ◌∷◌, ◌++◌, length, map, filter, Option, is_some}
use Rattle.std.specs.List.{fold}
use Rattle.std.specs.Ordering.{nat_cmp}
use Rattle.std.specs.Map.{lookup}
use Rattle.std.specs.BTreeMap.{insert_entry, is_at}
use Rattle.entry_tree.specs.declared.entry.Entry.{Entry}
use Rattle.entry_tree.specs.declared.op.Write.{Write}
use Rattle.entry_tree.specs.declared.touched.EntryChange.{EntryChange}
use Rattle.entry_tree.specs.Bytes.{is_one_found}
use Rattle.entry_tree.specs.Effects.{effect}
use Rattle.entry_tree.specs.History.{identity, state_of}
use Rattle.entry_tree.specs.Sound.{is_commit}
use Rattle.entry_tree.specs.State.{entry_at}
use Rattle.entry_tree.specs.Touched.{touched}
use Rattle.session_log.specs.declared.note.Note.{Note}
use Rattle.session_log.specs.Calls.{IsLogOf}
use Rattle.session_log.specs.Log.{Log, noted}

-- the identities of what differs, ascending
abbrev pub uuids_of : List EntryChange → List ℕ
uuids_of touches = map (λ entry_change. entry_change.uuid) touches

-- the number of the last of n writes that touches the identity, or 0
abbrev pub last_touch : (ℕ → List Entry) → ℕ → ℕ → ℕ
last_touch states zero uuid = 0
last_touch states (suc count) uuid =
    cond (is_one_found (entry_at (states count) uuid) (entry_at (states (count + 1)) uuid))
    (last_touch states count uuid) (count + 1)

-- ---- the log

-- the log after one note for each identity
abbrev pub noted_each : ℕ → List ℕ → Log → Log
noted_each number uuids log = fold (λ before uuid. noted number uuid before) log uuids

-- the log after a write that leads from one state to another
abbrev pub logged : ℕ → List Entry → List Entry → Log → Log
logged number old new log = noted_each number (uuids_of (touched old new)) log

abbrev pub notes_of : ℕ → List ℕ → List Note
notes_of number uuids = map (λ uuid. record { number = number; uuid = uuid }) uuids

-- of each of n writes, one note for each identity that it touched, ascending
abbrev pub all_notes : (ℕ → List Entry) → ℕ → List Note
all_notes states zero = []
all_notes states (suc count) =
    all_notes states count
    ++ notes_of (count + 1) (uuids_of (touched (states count) (states (count + 1))))

-- the log is what is left of all these notes: a prefix of them was dropped, and the floor is the
-- greatest number there
abbrev pub IsLogged : ℕ → List Write → Log → Type 0
IsLogged history writes log = IsLogOf (all_notes (state_of history writes) (length writes)) log

-- ---- the numbers that are kept beside the entries

-- identities with the number of the commit that touched each last
abbrev pub Numbers : Type 0
Numbers = List (ℕ × ℕ)

abbrev pub number_at : Numbers → ℕ → Option ℕ
number_at numbers uuid = lookup (is_at (nat_cmp uuid)) numbers

-- whether the number of a write is kept for what it left: a commit leaves an entry with the CSN
-- that it came with, and any other write with its own, which is only that write's
abbrev pub is_number_kept : Bool → Option Entry → Bool
is_number_kept commits after = commits && is_some after

abbrev pub renewed_by : Bool → ℕ → Numbers → EntryChange → Numbers
renewed_by commits number numbers entry_change =
    if is_number_kept commits entry_change.after
    then insert_entry nat_cmp numbers entry_change.uuid number
    else filter (λ kept. not (kept.0 == entry_change.uuid)) numbers

-- the numbers after a write of this number, which is a commit or not
abbrev pub renewed : Bool → ℕ → Numbers → List EntryChange → Numbers
renewed commits number numbers touches = fold (renewed_by commits number) numbers touches

-- the numbers after these writes, which come after `before` others, given the entries and numbers then
unfoldable pub numbers_from : ℕ → List Entry → ℕ → Numbers → List Write → Numbers
numbers_from history entries before numbers [] = numbers
numbers_from history entries before numbers (write ∷ writes) =
    numbers_from history (effect entries write.op (identity history (before + 1)) write.csn)
    (before + 1)
    (renewed (is_commit write.op) (before + 1) numbers
    (touched entries (effect entries write.op (identity history (before + 1)) write.csn)))
    writes

-- the numbers after the writes of a list
abbrev pub numbers_after : ℕ → List Write → Numbers
numbers_after history writes = numbers_from history [] 0 [] writes
