-- Stages, as they are kept.
use Rattle.std.specs.Prelude.{◌≡◌, ℕ, Bool, true, false, nat_lt, nat_le, List, [], ◌∷◌, length, map, filter, Option, Some, None}
use Rattle.std.proofs.Common.{Bor}
use Rattle.std.specs.List.{list_all}
use Rattle.std.specs.Option.{option_and_then}
use Rattle.std.specs.Map.{keys_of, values_of}
use Rattle.entry_tree.specs.State.{exceeds_limits, total_weight}
use Rattle.entry_tree.specs.Touched.{rises}
use Rattle.entry_tree.specs.declared.entry.Entry.{Entry}
use Rattle.sync_model.specs.Copy.{Stage, puts_of, slot}
use Rattle.sync_consumer.specs.declared.stage.StagedChange.{StagedChange}
use Rattle.sync_consumer.specs.declared.stage.StagedChange.TheVariants.{AddOrModify, Delete}

abbrev pub change_of : StagedChange → ℕ × Option Entry
change_of (AddOrModify entry) = (entry.uuid, Some entry)
change_of (Delete uuid) = (uuid, None)

-- the changes that a map keeps by their identities, and changes that are lent
abbrev pub changes_kept : List (ℕ × StagedChange) → Stage
changes_kept changes = map change_of (values_of changes)

abbrev pub changes_in : List (Bor StagedChange) → Stage
changes_in changes = map change_of (map (λ (change : Bor StagedChange). change.now) changes)

-- the entry of one change, and the identity that has none, as lists
abbrev pub put_alone : StagedChange → List Entry
put_alone (AddOrModify entry) = entry ∷ []
put_alone (Delete uuid) = []

abbrev pub dropped_alone : StagedChange → List ℕ
dropped_alone (AddOrModify entry) = []
dropped_alone (Delete uuid) = uuid ∷ []

-- the entry that is staged of the identity
abbrev pub entry_staged : Stage → ℕ → Option Entry
entry_staged stage uuid = option_and_then (λ entry. entry) (slot stage uuid)

-- ---- order

-- each of the entries is above the identity
abbrev pub is_above : ℕ → List Entry → Bool
is_above uuid entries = list_all (λ entry. nat_lt uuid entry.uuid) entries

-- the entries above the identity
abbrev pub higher : ℕ → List Entry → List Entry
higher uuid entries = filter (λ entry. nat_lt uuid entry.uuid) entries

-- the entries up to the identity
abbrev pub up_to : ℕ → List Entry → List Entry
up_to uuid entries = filter (λ entry. nat_le entry.uuid uuid) entries

-- ---- counts and weights

abbrev pub count_of : Option Entry → ℕ
count_of None = 0
count_of (Some entry) = 1

-- each change is kept by its own identity, in ascending order; the entries are counted and weighed,
-- and within the limits of a directory
pub record IsStage (changes : List (ℕ × StagedChange)) (count weight : ℕ) : Type 0 where
  pub own :
      keys_of changes ≡ map (λ (change : StagedChange). (change_of change).0) (values_of changes)
  pub ordered : rises (keys_of (changes_kept changes)) ≡ true
  pub counted : count ≡ length (puts_of (changes_kept changes))
  pub weighed : weight ≡ total_weight (puts_of (changes_kept changes))
  pub within : exceeds_limits (puts_of (changes_kept changes)) ≡ false
