-- Places in a list of references to entries, as a binary search finds them.
use Rattle.std.proofs.Common.{◌≡◌, ◌<◌, ◌≤◌, ℕ, zero, suc, true, List, [], ◌∷◌, length, map, get_or, set, ap, ◌∙◌, refl, subst, arith}
use Rattle.std.specs.List.{HoldsAt, insert}
use Rattle.std.specs.List.Sorted.{IsNonDecreasingBy, IsPartitionPoint}
use Rattle.std.specs.Ordering.{nat_cmp, ordering_index}
use Rattle.std.specs.declared.cmp.Ordering.TheVariants.{Less, Equal, Greater}
use Rattle.std.proofs.lemmas.List.{length-map, map-set}
use Rattle.std.proofs.Math.ListN.{get_or-map}
use Rattle.entry_writes.specs.declared.entry.Entry.{Entry}
use Rattle.entry_writes.specs.State.{ascends, put}
use Rattle.entry_tree.proofs.Searching.{set_found, insert_found}

-- what is so of the key of an element is so of the element of the keys
pub at_map : {X Y : Type 0} (P : Y → Type 0) (key : X → Y) (xs : List X) (k : ℕ) (d : Y) → k < length xs → ((e : X) → P (key (get_or xs k e))) → P (get_or (map key xs) k d)
at_map P key [] k d low h = absurd (omega arith)
at_map P key (x ∷ xs) zero d low h = h x
at_map P key (x ∷ xs) (suc k) d low h = at_map P key xs k d (omega arith) h

-- the keys with one more among them
pub map-insert : {X Y : Type 0} (key : X → Y) (xs : List X) (k : ℕ) (x : X) → map key (insert xs k x) ≡ insert (map key xs) k (key x)
map-insert key [] zero x = refl
map-insert key [] (suc k) x = refl
map-insert key (y ∷ xs) zero x = refl
map-insert key (y ∷ xs) (suc k) x = ap (λ ys. key y ∷ ys) (map-insert key xs k x)

module _ {T : Type 0} (of : T → Entry) where
  abbrev Found : List T → ℕ → ℕ → Type 0
  Found ys u place = HoldsAt (λ (y : T). nat_cmp (of y).uuid u ≡ Equal) ys place

  abbrev Absent : List T → ℕ → ℕ → Type 0
  Absent ys u place =
      IsNonDecreasingBy (λ (y : T). ordering_index (nat_cmp (of y).uuid u)) ys → IsPartitionPoint (λ (y : T). nat_cmp (of y).uuid u ≡ Less) (λ (y : T). nat_cmp (of y).uuid u ≡ Greater) ys place

  absent_of : (ys : List T) (u place : ℕ) → place ≤ length ys → Absent ys u place
      → IsNonDecreasingBy (λ (e : Entry). ordering_index (nat_cmp e.uuid u)) (map of ys)
      → IsPartitionPoint (λ (e : Entry). nat_cmp e.uuid u ≡ Less) (λ (e : Entry). nat_cmp e.uuid u ≡ Greater) (map of ys) place
  absent_of ys u place low found up =
      let long = length-map ys of in
      let parted = found (λ i j y le less.
      subst (λ e. ordering_index (nat_cmp e.uuid u) ≤ ordering_index (nat_cmp (of (get_or ys j y)).uuid u)) (get_or-map of ys i y)
      (subst (λ e. ordering_index (nat_cmp (get_or (map of ys) i (of y)).uuid u) ≤ ordering_index (nat_cmp e.uuid u)) (get_or-map of ys j y)
      (up i j (of y) le (omega (arith, long, less)))))
      in (
        λ k d from less. at_map (λ (e : Entry). nat_cmp e.uuid u ≡ Less) of ys k d (omega (arith, low, less)) (λ y. parted.0 k y from less),
        λ k d from less. at_map (λ (e : Entry). nat_cmp e.uuid u ≡ Greater) of ys k d (omega (arith, long, less)) (λ y. parted.1 k y from (omega (arith, long, less))),
      )

  -- setting the entry at the place that is found for it is a put
  pub set_found_of : (y : T) (ys : List T) (place : ℕ) → ascends (map of ys) ≡ true → place < length ys → Found ys (of y).uuid place → map of (set ys place y) ≡ put (of y) (map of ys)
  set_found_of y ys place asc low found =
      map-set of ys place y
      ∙ set_found (of y) (map of ys) place asc (let long = length-map ys of in omega (arith, long, low))
      (λ d. at_map (λ (e : Entry). nat_cmp e.uuid (of y).uuid ≡ Equal) of ys place d low found)

  -- inserting the entry at the place where it is absent is a put
  pub insert_found_of : (y : T) (ys : List T) (place : ℕ) → ascends (map of ys) ≡ true → place ≤ length ys → Absent ys (of y).uuid place → map of (insert ys place y) ≡ put (of y) (map of ys)
  insert_found_of y ys place asc low found =
      map-insert of ys place y
      ∙ insert_found (of y) (map of ys) place asc (let long = length-map ys of in omega (arith, long, low)) (absent_of ys (of y).uuid place low found)
