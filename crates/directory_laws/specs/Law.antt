-- The laws of a directory's histories: its entries can be sent, and its states
-- keep within the limits.
use Rattle.std.specs.Prelude.{◌≡◌, ◌<◌, ◌≤◌, ◌^◌, ℕ, true, false, List, [], ◌∷◌, ◌++◌, length, All, IfSome, Ok}
use Rattle.schema_rules.specs.declared.raw.Change.{Change}
use Rattle.csn_cookie.specs.Csn.{CsnValue, IsCsn, start}
use Rattle.csn_cookie.specs.CsnMaker.{next_csn}
use Rattle.dn_names.specs.Names.{TypeAndValue}
use Rattle.entry_tree.specs.declared.entry.Entry.{Entry}
use Rattle.entry_tree.specs.declared.op.Op.{Op}
use Rattle.entry_tree.specs.declared.op.Write.{Write}
use Rattle.entry_tree.specs.Effects.{effect}
use Rattle.entry_tree.specs.History.{state_of}
use Rattle.entry_tree.specs.Reading.{read_change}
use Rattle.entry_tree.specs.Sound.{is_commit, is_sound_op}
use Rattle.entry_tree.specs.State.{total_weight, most_entries, most_weight}
use Rattle.sync_model.specs.Law.{IsWithinLimits}
use Rattle.directory_writes.specs.Directory.{AreAccepted}
use Rattle.directory_writes.specs.Formed.{AreFormed, IsWellFormed}
use Rattle.directory_laws.specs.Accepted.{IsAcceptedFromClient, WereAccepted}
use Rattle.sync_wire.specs.CanBeSent.{CanBeSent}
use Rattle.directory_laws.specs.Reading.{EntryIsReadAgain}

-- each entry after the first n writes can be sent
abbrev pub EntriesCanBeSent : Type 0
EntriesCanBeSent =
    (suffix : List (List TypeAndValue)) (history : ℕ) (writes : List Write)
    → WereAccepted suffix history writes
    → (number : ℕ) → All CanBeSent (state_of history writes number)

-- an accepted write leaves entries that can be sent where there were such
abbrev pub WritesKeepEntries : Type 0
WritesKeepEntries =
    (suffix : List (List TypeAndValue)) (entries : List Entry) (write : Write) (uuid : ℕ)
    → All CanBeSent entries
    → IsAcceptedFromClient suffix entries write → uuid < 2 ^ 128
    → All CanBeSent (effect entries write.op uuid write.csn)

-- what can be sent is read again
abbrev pub SentIsReadAgain : Type 0
SentIsReadAgain = (e : Entry) → CanBeSent e → EntryIsReadAgain e

-- one more write, which is accepted in the entries that the others left
abbrev pub AcceptedWritesGrow : Type 0
AcceptedWritesGrow =
    (suffix : List (List TypeAndValue)) (history : ℕ) (writes : List Write) (write : Write)
    → WereAccepted suffix history writes
    → IsAcceptedFromClient suffix (state_of history writes (length writes)) write
    → WereAccepted suffix history (writes ++ write ∷ [])

-- the first writes of a list that was accepted were accepted
abbrev pub PrefixesWereAccepted : Type 0
PrefixesWereAccepted =
    (suffix : List (List TypeAndValue)) (history : ℕ) (writes more : List Write)
    → WereAccepted suffix history (writes ++ more) → WereAccepted suffix history writes

-- the writes that a directory keeps were accepted, where none of them is a commit
abbrev pub KeptWritesWereAccepted : Type 0
KeptWritesWereAccepted =
    (suffix : List (List TypeAndValue)) (history : ℕ) (writes : List Write)
    → AreAccepted suffix history writes → AreFormed writes
    → All (λ write. is_commit write.op ≡ false) writes
    → WereAccepted suffix history writes

-- ---- states

-- n writes of a history have identities of their own
abbrev pub most_identities : ℕ
most_identities = 2 ^ 62

-- each state has no more entries, and no heavier ones, than a directory may have
abbrev pub StatesAreSmall : Type 0
StatesAreSmall =
    (suffix : List (List TypeAndValue)) (history : ℕ) (writes : List Write)
    → WereAccepted suffix history writes
    → (number : ℕ)
    → (length (state_of history writes number) ≤ most_entries)
    × (total_weight (state_of history writes number) ≤ most_weight)

-- and no two of one name, where no identity was given twice
abbrev pub StatesAreWithin : Type 0
StatesAreWithin =
    (suffix : List (List TypeAndValue)) (history : ℕ) (writes : List Write)
    → WereAccepted suffix history writes → length writes ≤ most_identities
    → (number : ℕ) → IsWithinLimits (state_of history writes number)

-- ---- what holds of each write

-- the CSN of a directory without writes, and each that is drawn after one in range
abbrev pub DrawnCsnsAreInRange : Type 0
DrawnCsnsAreInRange =
    ((sid : ℕ) → sid < 2 ^ 12 → IsCsn (start sid))
    × ((now : ℕ) (last : CsnValue) → IsCsn last → IfSome (next_csn now last) IsCsn)

-- a write that was read is well formed, and a client may ask for it
abbrev pub ReadWritesAreSound : Type 0
ReadWritesAreSound =
    (change : Change) (op : Op) → read_change change ≡ Ok op
    → IsWellFormed op × (is_sound_op op ≡ true)
