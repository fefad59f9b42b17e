-- How it is kept what writes that are not accepted yet send to a search.
use Rattle.std.specs.Prelude.{◌≡◌, ⊤, ℕ, ◌≤◌, Bool, true, false, List, [], ◌∷◌, map, fold, length, sum_by}
use Rattle.std.specs.List.{flat_map}
use Rattle.entry_tree.specs.Touched.{joined}
use Rattle.sync_model.specs.Incremental.{about}
use Rattle.sync_model.specs.Law.{is_nil}
use Rattle.sync_model.specs.Message.{SyncMessage}
use Rattle.sync_slices.specs.Slices.{SliceProgress}
use Rattle.sync_provider.specs.declared.staged_group.StagedGroup.{StagedGroup}

abbrev pub messages_in : List StagedGroup → List (List SyncMessage)
messages_in groups = map (λ group. group.messages.items) groups

-- what changed once these messages are sent
abbrev pub changed_with : List ℕ → List SyncMessage → List ℕ
changed_with changed messages = joined changed (flat_map about messages)

-- and once all of these are
abbrev pub last_changed : List ℕ → List (List SyncMessage) → List ℕ
last_changed changed groups = fold changed_with changed groups

-- the same while identities are left to decide
abbrev pub grown_by : (left : List ℕ) → List ℕ → List SyncMessage → List ℕ
grown_by [] changed messages = []
grown_by (uuid ∷ uuids) changed messages = changed_with changed messages

-- each group has what changed with it, after those before it
abbrev pub AreGrown : List ℕ → List StagedGroup → Type 0
AreGrown changed [] = ⊤
AreGrown changed (group ∷ groups) =
    (group.changed ≡ changed_with changed group.messages.items)
    × AreGrown (changed_with changed group.messages.items) groups

-- for a search for which a write was too much, after which no identity is left to decide, or not:
-- they have as many messages, for all of which there is room where none is left and they may be
-- pending; while some are left, they have what changed
pub record AreStaged
    (over : Bool) (p : SliceProgress) (spare count : ℕ)
    (groups : List StagedGroup) : Type 0 where
  pub ended : over ≡ true → p.left ≡ []
  pub counted : count ≡ sum_by length (messages_in groups)
  pub room : over ≡ false → p.left ≡ [] → count ≤ spare
  pub grown : is_nil p.left ≡ false → AreGrown p.changed groups
