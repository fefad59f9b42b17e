-- Identities in ascending order: those of entries, joined, and filtered.
use Rattle.std.proofs.Common.{◌≡◌, ℕ, Bool, true, false, cond, List, [], ◌∷◌}
use Rattle.std.specs.Prelude.{filter, nat_lt}
use Rattle.std.specs.BTreeSet.{insert_key}
use Rattle.std.specs.Ordering.{nat_cmp}
use Rattle.std.proofs.lemmas.Bool.{and_parts, ltb-true}
use Rattle.std.proofs.lemmas.Cmp.{nat_cmp_total}
use Rattle.dn_names.proofs.SortedLists.{Below, Sorted, sorted-insert}
use Rattle.entry_tree.specs.declared.entry.Entry.{Entry}
use Rattle.entry_tree.specs.State.{ascends}
use Rattle.entry_tree.specs.Touched.{identities, joined}
use Rattle.entry_tree.proofs.Identities.{above}
use Rattle.entry_tree.proofs.Searching.{same_where}
use Rattle.directory_writes.proofs.Keyed.{less_cmp}

below-identities : (u : ℕ) (es : List Entry) → above u es ≡ true → Below nat_cmp u (identities es)
below-identities u [] h = tt
below-identities u (e ∷ es) h =
    let p = and_parts (nat_lt u e.uuid) (above u es) h in
    (less_cmp u e.uuid (ltb-true u e.uuid p.0), below-identities u es p.1)

-- the identities of entries in ascending order are so
pub sorted-identities : (es : List Entry) → ascends es ≡ true → Sorted nat_cmp (identities es)
sorted-identities [] asc = tt
sorted-identities (e ∷ es) asc =
    let p = and_parts (above e.uuid es) (ascends es) asc in
    (below-identities e.uuid es p.0, sorted-identities es p.1)

-- identities in ascending order are so with more joined to them
pub sorted-joined : (ys xs : List ℕ) → Sorted nat_cmp xs → Sorted nat_cmp (joined xs ys)
sorted-joined [] xs s = s
sorted-joined (y ∷ ys) xs s = sorted-joined ys (insert_key nat_cmp xs y) (sorted-insert nat_cmp_total same_where xs y s)

below-filter : (p : ℕ → Bool) (x : ℕ) (ys : List ℕ) → Below nat_cmp x ys → Below nat_cmp x (filter p ys)
below-filter p x [] b = tt
below-filter p x (y ∷ ys) b = step (p y) (below-filter p x ys b.1) where
  step : (keep : Bool) → Below nat_cmp x (filter p ys) → Below nat_cmp x (cond keep (y ∷ filter p ys) (filter p ys))
  step true rest = (b.0, rest)
  step false rest = rest

-- those that pass a test are in ascending order
pub sorted-filter : (p : ℕ → Bool) (xs : List ℕ) → Sorted nat_cmp xs → Sorted nat_cmp (filter p xs)
sorted-filter p [] s = tt
sorted-filter p (x ∷ xs) s = step (p x) (sorted-filter p xs s.1) where
  step : (keep : Bool) → Sorted nat_cmp (filter p xs) → Sorted nat_cmp (cond keep (x ∷ filter p xs) (filter p xs))
  step true rest = (below-filter p x xs s.0, rest)
  step false rest = rest
