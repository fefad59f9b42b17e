-- The identities that a refresh goes through, as far as they are not decided.
use Rattle.std.specs.Prelude.{◌≡◌, ◌≤◌, ⊤, ℕ, true, length, List, [], ◌∷◌, drop, Option, Some}
use Rattle.std.specs.List.Sorted.{IsStrictlySortedBy}
use Rattle.std.specs.Ordering.{nat_cmp}
use Rattle.entry_tree.specs.IdentityOrder.{above}
use Rattle.entry_tree.specs.State.{ascends}
use Rattle.entry_tree.specs.Touched.{identities}
use Rattle.sync_provider.specs.declared.walk.WalkPlace.{WalkPlace}
use Rattle.sync_provider.specs.declared.walk.WalkPlace.TheVariants.{End, Entries, Touched}

-- those that are left from this place on
abbrev pub left_at : WalkPlace → List ℕ
left_at End = []
left_at (Entries entries after) = above after (identities entries)
left_at (Touched uuids next) = drop next uuids.value.items

-- they ascend, and there are as many as are passed over
abbrev pub IsInOrder : WalkPlace → Type 0
IsInOrder End = ⊤
IsInOrder (Entries entries after) = ascends entries ≡ true
IsInOrder (Touched uuids next) =
    IsStrictlySortedBy nat_cmp uuids.value.items × (next ≤ length uuids.value.items)

-- the last of these, or the one before them
abbrev pub last_or : Option ℕ → List ℕ → Option ℕ
last_or before [] = before
last_or before (uuid ∷ uuids) = last_or (Some uuid) uuids
