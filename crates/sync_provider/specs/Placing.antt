-- The places of open searches, of which the first is that of the number 1.
use Rattle.std.specs.Prelude.{◌≡◌, ⊤, ℕ, suc, ◌<◌, ◌≤◌, ◌⊎◌, List, [], ◌∷◌, length, drop, Option, Some, None, option_map}
use Rattle.std.specs.BTreeMap.{insert_entry, is_at}
use Rattle.std.specs.Map.{lookup, remove_entry}
use Rattle.std.specs.Ordering.{nat_cmp}
use Rattle.entry_tree.specs.declared.touched.EntryChange.{EntryChange}
use Rattle.sync_model.specs.Message.{CookieText}
use Rattle.sync_provider.specs.Search.{SearchState}
use Rattle.sync_provider.specs.Staging.{HeldSearch, pushed_staged, with_group, without_groups}

-- a number that has a place
pub record IsSearchNumber (number : ℕ) : Type 0 where
  pub first : 1 ≤ number
  pub last : number ≤ 64

-- and one that has none
abbrev pub HasNoPlace : ℕ → Type 0
HasNoPlace number = (number ≡ 0) ⊎ (64 < number)

-- what the places hold, the first of which is that of this number
abbrev pub placed_from : {X : Type 0} → ℕ → List (Option X) → List (ℕ × X)
placed_from number [] = []
placed_from number (None ∷ places) = placed_from (suc number) places
placed_from number (Some held ∷ places) = (number, held) ∷ placed_from (suc number) places

-- no place has a search
abbrev pub AreFree : {X : Type 0} → List (Option X) → Type 0
AreFree [] = ⊤
AreFree (None ∷ places) = AreFree places
AreFree (Some held ∷ places) = ⊥

-- and none after the first n
abbrev pub AreFreeFrom : {X : Type 0} → ℕ → List (Option X) → Type 0
AreFreeFrom n places = AreFree (drop n places)

-- there is a place for each number, and those after the first n are free
pub record IsTable {X : Type 0} (used : ℕ) (places : List (Option X)) : Type 0 where
  pub long : length places ≡ 64
  pub few : used ≤ 64
  pub free : AreFreeFrom used places

-- the numbers ascend, from the first on
abbrev pub Ascends : {X : Type 0} → ℕ → List (ℕ × X) → Type 0
Ascends first [] = ⊤
Ascends first (e ∷ es) = (first ≤ e.0) × Ascends (suc e.0) es

-- a map with this value of a key, or with none
abbrev pub put_back : {X : Type 0} → List (ℕ × X) → ℕ → Option X → List (ℕ × X)
put_back es k None = remove_entry (is_at (nat_cmp k)) es
put_back es k (Some held) = insert_entry nat_cmp es k held

-- what is taken out of the place of this number and put back leaves the map as it was
abbrev pub ComesBack : {X : Type 0} → List (ℕ × X) → ℕ → Type 0
ComesBack es k =
    put_back (remove_entry (is_at (nat_cmp k)) es) k (lookup (is_at (nat_cmp k)) es) ≡ es

-- the search of a place
abbrev pub shown : Option HeldSearch → Option SearchState
shown place = option_map (λ held. held.search) place

-- the search of a place with the messages of one more write, and with nothing staged
abbrev pub staged_at : List EntryChange → CookieText → Option HeldSearch → Option HeldSearch
staged_at entry_changes cookie place = option_map (with_group entry_changes cookie) place

abbrev pub unstaged_at : Option HeldSearch → Option HeldSearch
unstaged_at place = option_map without_groups place

-- the search of a place after all that was staged is put after what is due
abbrev pub pushed_at : ℕ → Option HeldSearch → Option SearchState
pushed_at limit place = option_map (λ held. pushed_staged limit held.staged held.search) place
