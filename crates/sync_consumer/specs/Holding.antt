-- Entries that are held, what they weigh, and the identities of their names.
use Rattle.std.specs.Prelude.{◌≡◌, ◌<◌, ◌^◌, ℕ, Bool, true, false, ◌==◌, cond, is_some, bytes_eq, filter_map, map, option_map, List, Option, Some, None, Vec}
use Rattle.std.proofs.Common.{Global, ◌⊎◌}
use Rattle.std.specs.Bool.{MatchBool}
use Rattle.std.specs.BTreeMap.{is_at}
use Rattle.std.specs.Cmp.Lexicographic.{slice_cmp}
use Rattle.std.specs.Map.{keys_of, values_of, lookup}
use Rattle.std.specs.Option.{unwrap_or}
use Rattle.std.specs.Ordering.{nat_cmp}
use Rattle.dn_names.specs.Paths.{path_key}
use Rattle.entry_tree.specs.declared.entry.Entry.{Entry}
use Rattle.entry_tree.specs.NameIndex.{HasPathKey, has_path}
use Rattle.entry_tree.specs.State.{ascends, entry_at, total_weight}
use Rattle.entry_tree.specs.Touched.{identities}
use Rattle.sync_model.specs.Copy.{Stage, slot}
use Rattle.sync_model.specs.Within.{against}
use Rattle.sync_consumer.specs.declared.stage.StagedChange.{StagedChange}
use Rattle.sync_consumer.specs.declared.stage.StagedChange.TheVariants.{AddOrModify}
use Rattle.sync_consumer.specs.Staging.{change_of}

-- entries that a consumer may hold: they ascend by identity, and nothing rejects them
abbrev pub IsConsumerContent : List Entry → Type 0
IsConsumerContent entries = (ascends entries ≡ true) × (against entries ≡ None)

-- each entry is kept by its own identity, in ascending order, with what all of them weigh, which is
-- a number of 64 bits
pub record IsWeighed (entries : List (ℕ × Entry)) (weight : ℕ) : Type 0 where
  pub own : keys_of entries ≡ identities (values_of entries)
  pub ordered : ascends (values_of entries) ≡ true
  pub weighed : weight ≡ total_weight (values_of entries)
  pub small : weight < 2 ^ 64

-- each entry as the change that puts it, at the same key
abbrev pub as_puts : List (ℕ × Entry) → List (ℕ × StagedChange)
as_puts entries = map (λ (entry : ℕ × Entry). (entry.0, AddOrModify entry.1)) entries

-- the entries that changes put, at the same keys
abbrev pub entries_put : List (ℕ × StagedChange) → List (ℕ × Entry)
entries_put changes =
    filter_map
    (λ (change : ℕ × StagedChange).
    option_map (λ (entry : Entry). (change.0, entry)) (change_of change.1).1)
    changes

-- each change puts an entry, and these are kept and weighed so
pub record AreWeighedPuts (changes : List (ℕ × StagedChange)) (weight : ℕ) : Type 0 where
  pub puts : changes ≡ as_puts (entries_put changes)
  pub weighed : IsWeighed (entries_put changes) weight

-- ---- identities by the path keys of names

abbrev pub HeldNames : Type 0
HeldNames = List (Vec ℕ Global × ℕ)

-- the identity that stands at a path key
abbrev pub id_at : HeldNames → List ℕ → Option ℕ
id_at names path = lookup (is_at (λ (key : Vec ℕ Global). slice_cmp nat_cmp path key.items)) names

-- it is this identity
abbrev pub is_id : Option ℕ → ℕ → Bool
is_id None uuid = false
is_id (Some other) uuid = other == uuid

-- an identity stands at a path key exactly where its entry has a name of that path key
abbrev pub Notes : HeldNames → (ℕ → Option Entry) → Type 0
Notes names entry_of =
    (path : List ℕ) (uuid : ℕ) → is_id (id_at names path) uuid ≡ has_path path (entry_of uuid)

-- the names of these entries, all of which have path keys
pub record IsIndexOf (names : HeldNames) (entries : List Entry) : Type 0 where
  pub exact : Notes names (λ uuid. entry_at entries uuid)
  pub pathed : (uuid : ℕ) → HasPathKey (entry_at entries uuid)

-- entries that may be held, with their names
pub record IsEntryMap (entries : List Entry) (names : HeldNames) : Type 0 where
  pub held : IsConsumerContent entries
  pub index : IsIndexOf names entries

-- ---- names that changes take away and bring

-- this stands at the path key, or nothing does, and all else is as it was
abbrev pub SetsId : HeldNames → HeldNames → List ℕ → Option ℕ → Type 0
SetsId old new path found =
    (other : List ℕ) → id_at new other ≡ cond (bytes_eq path other) found (id_at old other)

-- the name of the entry is taken away, where there is one
abbrev pub Forgets : HeldNames → HeldNames → Option Entry → Type 0
Forgets old new None = new ≡ old
Forgets old new (Some e) = SetsId old new (path_key e.dn) None

-- an identity has an entry before a change and after it, and both have names of one path key
abbrev pub keeps_name : (was put : Option Entry) → Bool
keeps_name None put = false
keeps_name (Some was) None = false
keeps_name (Some was) (Some put) = bytes_eq (path_key was.dn) (path_key put.dn)

-- the name that the identity of the change has is taken away, unless the change keeps it
abbrev pub ForgetsFor : List Entry → ℕ × Option Entry → HeldNames → HeldNames → Type 0
ForgetsFor entries change old new =
    MatchBool (keeps_name (entry_at entries change.0) change.1) (new ≡ old)
    (Forgets old new (entry_at entries change.0))

-- the entry that an identity had, where nothing is staged of it; else what is staged, where that
-- keeps the name, or no entry
abbrev pub between : (put : Option (Option Entry)) → (was : Option Entry) → Option Entry
between None was = was
between (Some put) was = cond (keeps_name was put) put None

-- the entries of the names that stay as a stage takes effect
abbrev pub stays : List Entry → Stage → ℕ → Option Entry
stays entries stage uuid = between (slot stage uuid) (entry_at entries uuid)

-- what an identity has after a stage
abbrev pub after_stage : (ℕ → Option Entry) → Stage → ℕ → Option Entry
after_stage entry_of stage uuid = unwrap_or (slot stage uuid) (entry_of uuid)

-- no two identities have names of one path key
abbrev pub ArePathsApart : (ℕ → Option Entry) → Type 0
ArePathsApart entry_of =
    (path : List ℕ) (one other : ℕ)
    → has_path path (entry_of one) ≡ true
    → has_path path (entry_of other) ≡ true
    → one ≡ other

-- an identity of which something is staged has the entry whose name stays, or none
abbrev pub HasLeft : List Entry → (ℕ → Option Entry) → Stage → Type 0
HasLeft entries entry_of stage =
    (uuid : ℕ) → is_some (slot stage uuid) ≡ true → entry_of uuid ≡ stays entries stage uuid

-- the names of what the stage puts are noted beside those of all others: exactly, where none was
-- there before but those that stay, or where no two are of one path key after it
abbrev pub NotesAll : List Entry → HeldNames → HeldNames → Stage → Bool → Type 0
NotesAll entries old new stage are_free =
    (entry_of : ℕ → Option Entry)
    → Notes old entry_of
    → HasLeft entries entry_of stage
    → (are_free ≡ true) ⊎ ArePathsApart (after_stage entry_of stage)
    → Notes new (after_stage entry_of stage)
