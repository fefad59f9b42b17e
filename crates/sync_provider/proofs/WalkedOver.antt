-- The identities of a walk after a piece of them.
use Rattle.std.proofs.Common.{◌≡◌, ◌≤◌, ℕ, zero, suc, ◌+◌, ◌-◌, true, List, [], ◌∷◌, length, take, drop, Option, Some, None, refl, ap, sym, ◌∙◌, arith, length-drop, length-take}
use Rattle.std.specs.Prelude.{is_none, slice_get}
use Rattle.std.specs.List.{AllByRecursion}
use Rattle.std.specs.List.Sorted.{IsStrictlySortedBy}
use Rattle.std.specs.Ordering.{nat_cmp}
use Rattle.std.specs.declared.cmp.Ordering.TheVariants.{Less}
use Rattle.std.proofs.lemmas.List.{drop-drop, take_all}
use Rattle.entry_tree.specs.IdentityOrder.{above}
use Rattle.entry_tree.specs.State.{ascends}
use Rattle.entry_tree.specs.Touched.{identities, rises}
use Rattle.entry_tree.specs.declared.entry.Entry.{Entry}
use Rattle.sync_model.specs.Law.{is_nil}
use Rattle.entry_tree.proofs.Following.{above_next, identities_rise}
use Rattle.sync_provider.specs.Walks.{last_or}

-- ---- those of entries

-- above the last of a piece are those after it
above_last : (count : ℕ) (after : Option ℕ) (us : List ℕ) → rises us ≡ true → above (last_or after (take count (above after us))) us ≡ drop count (above after us)
above_last zero after us up = refl
above_last (suc count) after us up = by (λ u. above_last count (Some u) us up) (above after us) refl
  where
    by : ((u : ℕ) → above (last_or (Some u) (take count (above (Some u) us))) us ≡ drop count (above (Some u) us)) → (rest : List ℕ) → above after us ≡ rest
        → above (last_or after (take (suc count) rest)) us ≡ drop (suc count) rest
    by later [] is = is
    by later (u ∷ rest) is =
        let next : above (Some u) us ≡ rest = above_next after us u rest up is in
        ap (λ others. above (last_or (Some u) (take count others)) us) (sym next) ∙ later u ∙ ap (drop count) next

-- those above the last of a piece are those that were left but for the piece
pub entries_left : (count : ℕ) (after last : Option ℕ) (es : List Entry) (piece : List ℕ) → ascends es ≡ true → piece ≡ take count (above after (identities es)) → last ≡ last_or after piece
    → above last (identities es) ≡ drop count (above after (identities es))
entries_left count after last es piece up is found =
    ap (λ a. above a (identities es)) (found ∙ ap (last_or after) is) ∙ above_last count after (identities es) (identities_rise es up)

-- ---- those that were touched

drop_taken : (count : ℕ) (us : List ℕ) → drop (length (take count us)) us ≡ drop count us
drop_taken zero us = refl
drop_taken (suc count) [] = refl
drop_taken (suc count) (u ∷ us) = drop_taken count us

-- as many places further on are those that were left but for the piece
pub touched_left : (count next : ℕ) (us piece : List ℕ) → piece ≡ take count (drop next us) → drop (next + length piece) us ≡ drop count (drop next us)
touched_left count next us piece is =
    sym (drop-drop (length piece) next us) ∙ ap (λ us'. drop (length us') (drop next us)) is ∙ drop_taken count (drop next us)

-- there are as many
pub touched_within : (count next : ℕ) (us piece : List ℕ) → next ≤ length us → piece ≡ take count (drop next us) → next + length piece ≤ length us
touched_within count next us piece low is =
    let long = ap length is in
    let taken = length-take count (drop next us) in
    let left = length-drop next us in
    omega (arith, low, long, taken, left)

-- ---- the last of a piece

never_none : (u : ℕ) (us : List ℕ) → None ≡ slice_get (u ∷ us) (length us) → ⊥
never_none u [] none = let never : ⊥ = cc in never
never_none u (v ∷ us) none = never_none v us none

-- a piece without a last one has none, and the place stays
pub last_none : (before : Option ℕ) (us : List ℕ) → None ≡ slice_get us (length us - 1) → before ≡ last_or before us
last_none before [] none = refl
last_none before (u ∷ us) none = let one : length (u ∷ us) - 1 ≡ length us = omega arith in absurd (never_none u us (none ∙ ap (slice_get (u ∷ us)) one))

last_at : (before : Option ℕ) (us : List ℕ) (u last : ℕ) → length us ≡ suc last → Some u ≡ slice_get us last → Some u ≡ last_or before us
last_at before [] u last long there = absurd (omega (arith, long))
last_at before (x ∷ []) u zero long there = there
last_at before (x ∷ []) u (suc last) long there = absurd (omega (arith, long))
last_at before (x ∷ y ∷ us) u zero long there = absurd (omega (arith, long))
last_at before (x ∷ y ∷ us) u (suc last) long there = last_at (Some x) (y ∷ us) u last (omega (arith, long)) there

-- and else the last one is the place
pub last_some : (before : Option ℕ) (us : List ℕ) (u : ℕ) → Some u ≡ slice_get us (length us - 1) → Some u ≡ last_or before us
last_some before [] u there = absurd (cc)
last_some before (x ∷ us) u there = last_at before (x ∷ us) u (length (x ∷ us) - 1) (omega arith) there

-- none is left where there is no first one
pub none_is : (us : List ℕ) (first : Option ℕ) → first ≡ slice_get us 0 → is_none first ≡ is_nil us
none_is [] first is = ap is_none is
none_is (u ∷ us) first is = ap is_none is

-- ---- their order

all_taken : (count x : ℕ) (us : List ℕ) → AllByRecursion (λ y. nat_cmp x y ≡ Less) us → AllByRecursion (λ y. nat_cmp x y ≡ Less) (take count us)
all_taken zero x us all = tt
all_taken (suc count) x [] all = tt
all_taken (suc count) x (u ∷ us) all = (all.0, all_taken count x us all.1)

sorted_take : (count : ℕ) (us : List ℕ) → IsStrictlySortedBy nat_cmp us → IsStrictlySortedBy nat_cmp (take count us)
unfolding IsStrictlySortedBy
sorted_take zero us sorted = tt
sorted_take (suc count) [] sorted = tt
sorted_take (suc count) (u ∷ us) sorted = (all_taken count u us sorted.0, sorted_take count us sorted.1)

sorted_drop : (count : ℕ) (us : List ℕ) → IsStrictlySortedBy nat_cmp us → IsStrictlySortedBy nat_cmp (drop count us)
unfolding IsStrictlySortedBy
sorted_drop zero us sorted = sorted
sorted_drop (suc count) [] sorted = tt
sorted_drop (suc count) (u ∷ us) sorted = sorted_drop count us sorted.1

-- a piece is all that is left from a place on, where that is not longer
pub piece_all : (count next : ℕ) (us : List ℕ) → length us - next ≤ count → take (length us - next) (drop next us) ≡ take count (drop next us)
piece_all count next us few =
    let left = length-drop next us in
    take_all (length us - next) (drop next us) (omega (arith, left)) ∙ sym (take_all count (drop next us) (omega (arith, left, few)))

-- and else of its own length
pub piece_first : (count next : ℕ) (us : List ℕ) → take (next + count - next) (drop next us) ≡ take count (drop next us)
piece_first count next us = let same : next + count - next ≡ count = omega arith in ap (λ n. take n (drop next us)) same

-- a piece of what is in order is
pub piece_sorted : (count next : ℕ) (us : List ℕ) → IsStrictlySortedBy nat_cmp us → IsStrictlySortedBy nat_cmp (take count (drop next us))
piece_sorted count next us sorted = sorted_take count (drop next us) (sorted_drop next us sorted)

-- none are in order
pub none_sorted : IsStrictlySortedBy nat_cmp []
unfolding IsStrictlySortedBy
none_sorted = tt
