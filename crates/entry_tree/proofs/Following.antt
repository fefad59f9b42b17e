-- The identities above one, of some that ascend.
use Rattle.std.proofs.Common.{◌≡◌, ◌<◌, Bor, ℕ, zero, suc, Bool, true, false, cond, nat_lt, nat_eq, List, [], ◌∷◌, ◌++◌, length, take, Option, Some, None, refl, sym, ap, ◌∙◌, arith, append_assoc, append-nil}
use Rattle.std.specs.List.{AllByRecursion, filter, list_all, slice_get}
use Rattle.std.specs.List.Sorted.{IsStrictlySortedBy}
use Rattle.std.specs.Map.{keys_of, lookup_entry}
use Rattle.std.specs.Option.{option_map}
use Rattle.std.specs.Ordering.{is_lt, nat_cmp}
use Rattle.std.specs.declared.cmp.Ordering.TheVariants.{Less, Equal, Greater}
use Rattle.std.proofs.lemmas.Bool.{and_parts, and_from, le-ltb, ltb-true, ltb-false}
use Rattle.std.proofs.lemmas.List.{take_all, take-append-le}
use Rattle.entry_writes.specs.declared.entry.Entry.{Entry}
use Rattle.entry_writes.specs.State.{ascends}
use Rattle.entry_writes.specs.Touched.{identities, rises}
use Rattle.entry_tree.specs.IdentityOrder.{above}
use Rattle.entry_tree.specs.NameIndex.{by_identity}
use Rattle.entry_tree.proofs.Rising.{below_all, below_lower}

-- ---- in the map of the entries

-- a number is above another where it compares so
lt_is : (n k : ℕ) → is_lt (nat_cmp n k) ≡ nat_lt n k
lt_is n k = by (nat_lt n k) (nat_eq n k)
  where
    by : (less same : Bool) → is_lt (cond less Less (cond same Equal Greater)) ≡ less
    by true same = refl
    by false true = refl
    by false false = refl

-- the first pair above a number has the first key above it
pub first_above : {X : Type 0} → (n : ℕ) (pairs : List (ℕ × X))
    → option_map (λ (pair : ℕ × X). pair.0) (lookup_entry (λ key. is_lt (nat_cmp n key)) pairs) ≡ slice_get (filter (nat_lt n) (keys_of pairs)) 0
first_above n [] = refl
first_above {X} n (p ∷ pairs) = by (is_lt (nat_cmp n p.0)) (nat_lt n p.0) (lt_is n p.0) (first_above n pairs)
  where
    by : (compares less : Bool) → compares ≡ less
        → option_map (λ (pair : ℕ × X). pair.0) (lookup_entry (λ key. is_lt (nat_cmp n key)) pairs) ≡ slice_get (filter (nat_lt n) (keys_of pairs)) 0
        → option_map (λ (pair : ℕ × X). pair.0) (cond compares (Some p) (lookup_entry (λ key. is_lt (nat_cmp n key)) pairs))
        ≡ slice_get (cond less (p.0 ∷ filter (nat_lt n) (keys_of pairs)) (filter (nat_lt n) (keys_of pairs))) 0
    by true true same later = refl
    by false false same later = later
    by true false same later = absurd (cc)
    by false true same later = absurd (cc)

-- the key of a pair that is lent
pub lent_key : {X : Type 0} → (pair : Option (Bor ℕ × Bor X))
    → option_map (λ (pair : Bor ℕ × Bor X). pair.0.now) pair ≡ option_map (λ (pair : ℕ × X). pair.0) (option_map (λ (pair : Bor ℕ × Bor X). (pair.0.now, pair.1.now)) pair)
lent_key None = refl
lent_key (Some pair) = refl

-- the keys are the identities
pub keys_are : (es : List Entry) → keys_of (by_identity es) ≡ identities es
keys_are [] = refl
keys_are (e ∷ es) = ap (λ uuids. e.uuid ∷ uuids) (keys_are es)

-- the first of them
pub first_key : {X : Type 0} → (pairs : List (ℕ × X)) → option_map (λ (pair : ℕ × X). pair.0) (slice_get pairs 0) ≡ slice_get (keys_of pairs) 0
first_key [] = refl
first_key (p ∷ pairs) = refl

-- ---- in their order

-- the identities of entries that ascend rise
pub identities_rise : (es : List Entry) → ascends es ≡ true → rises (identities es) ≡ true
identities_rise [] up = refl
identities_rise (e ∷ es) up =
    let p = and_parts (list_all (λ later. nat_lt e.uuid later.uuid) es) (ascends es) up in
    and_from (below_all e.uuid (identities es)) (rises (identities es)) (below es p.0) (identities_rise es p.1)
  where
    below : (others : List Entry) → list_all (λ later. nat_lt e.uuid later.uuid) others ≡ true → below_all e.uuid (identities others) ≡ true
    below [] all = refl
    below (x ∷ others) all =
        let p = and_parts (nat_lt e.uuid x.uuid) (list_all (λ later. nat_lt e.uuid later.uuid) others) all in
        and_from (nat_lt e.uuid x.uuid) (below_all e.uuid (identities others)) p.0 (below others p.1)

-- where all are above a number, none is left out
all_pass : (n : ℕ) (us : List ℕ) → below_all n us ≡ true → filter (nat_lt n) us ≡ us
all_pass n [] below = refl
all_pass n (u ∷ us) below =
    let p = and_parts (nat_lt n u) (below_all n us) below in
    ap (λ b. cond b (u ∷ filter (nat_lt n) us) (filter (nat_lt n) us)) p.0 ∙ ap (λ l. u ∷ l) (all_pass n us p.1)

-- above the first are the others
above_first : (u : ℕ) (us : List ℕ) → below_all u us ≡ true → filter (nat_lt u) (u ∷ us) ≡ us
above_first u us below =
    ap (λ b. cond b (u ∷ filter (nat_lt u) us) (filter (nat_lt u) us)) (le-ltb u u (omega arith)) ∙ all_pass u us below

-- what passes a test first passes it
first_passes : (test : ℕ → Bool) (us : List ℕ) (u : ℕ) (rest : List ℕ) → filter test us ≡ u ∷ rest → test u ≡ true
first_passes test [] u rest is = absurd (cc)
first_passes test (x ∷ us) u rest is = by (first_passes test us u rest) (test x) refl is
  where
    by : (filter test us ≡ u ∷ rest → test u ≡ true) → (b : Bool) → test x ≡ b → cond b (x ∷ filter test us) (filter test us) ≡ u ∷ rest → test u ≡ true
    by others true passes here = let same : x ≡ u = cc in ap test (sym same) ∙ passes
    by others false fails later = others later

-- where these are above a number, those after the first are those above the first
pub above_next : (after : Option ℕ) (us : List ℕ) (u : ℕ) (rest : List ℕ) → rises us ≡ true → above after us ≡ u ∷ rest → above (Some u) us ≡ rest
above_next None [] u rest up is = absurd (cc)
above_next None (x ∷ us) u rest up is =
    let head : x ≡ u = cc in
    let tail : us ≡ rest = cc in
    ap (λ m. filter (nat_lt m) (x ∷ us)) (sym head) ∙ above_first x us (and_parts (below_all x us) (rises us) up).0 ∙ tail
above_next (Some n) [] u rest up is = absurd (cc)
above_next (Some n) (x ∷ us) u rest up is = by (above_next (Some n) us u rest p.1) (nat_lt n x) refl is
  where
    p : (below_all x us ≡ true) × (rises us ≡ true)
    p = and_parts (below_all x us) (rises us) up

    by : (filter (nat_lt n) us ≡ u ∷ rest → filter (nat_lt u) us ≡ rest) → (b : Bool) → nat_lt n x ≡ b → cond b (x ∷ filter (nat_lt n) us) (filter (nat_lt n) us) ≡ u ∷ rest → filter (nat_lt u) (x ∷ us) ≡ rest
    by others true less here =
        let head : x ≡ u = cc in
        let tail : filter (nat_lt n) us ≡ rest = cc in
        ap (λ m. filter (nat_lt m) (x ∷ us)) (sym head)
        ∙ above_first x us p.0
        ∙ sym (all_pass n us (below_lower n x us (ltb-true n x less) p.0))
        ∙ tail
    by others false more later =
        let low = ltb-false n x more in
        let high = ltb-true n u (first_passes (nat_lt n) us u rest later) in
        ap (λ b. cond b (x ∷ filter (nat_lt u) us) (filter (nat_lt u) us)) (le-ltb u x (omega (arith, low, high)))
        ∙ others later

-- ---- their order

below-filter : (n : ℕ) (test : ℕ → Bool) (us : List ℕ) → below_all n us ≡ true → below_all n (filter test us) ≡ true
below-filter n test [] below = refl
below-filter n test (u ∷ us) below = by (test u) (below-filter n test us p.1)
  where
    p : (nat_lt n u ≡ true) × (below_all n us ≡ true)
    p = and_parts (nat_lt n u) (below_all n us) below

    by : (b : Bool) → below_all n (filter test us) ≡ true → below_all n (cond b (u ∷ filter test us) (filter test us)) ≡ true
    by true rest = and_from (nat_lt n u) (below_all n (filter test us)) p.0 rest
    by false rest = rest

rises-filter : (test : ℕ → Bool) (us : List ℕ) → rises us ≡ true → rises (filter test us) ≡ true
rises-filter test [] up = refl
rises-filter test (u ∷ us) up = by (test u) (rises-filter test us p.1)
  where
    p : (below_all u us ≡ true) × (rises us ≡ true)
    p = and_parts (below_all u us) (rises us) up

    by : (b : Bool) → rises (filter test us) ≡ true → rises (cond b (u ∷ filter test us) (filter test us)) ≡ true
    by true rest = and_from (below_all u (filter test us)) (rises (filter test us)) (below-filter u test us p.0) rest
    by false rest = rest

below-take : (n count : ℕ) (us : List ℕ) → below_all n us ≡ true → below_all n (take count us) ≡ true
below-take n zero us below = refl
below-take n (suc count) [] below = refl
below-take n (suc count) (u ∷ us) below =
    let p = and_parts (nat_lt n u) (below_all n us) below in
    and_from (nat_lt n u) (below_all n (take count us)) p.0 (below-take n count us p.1)

rises-take : (count : ℕ) (us : List ℕ) → rises us ≡ true → rises (take count us) ≡ true
rises-take zero us up = refl
rises-take (suc count) [] up = refl
rises-take (suc count) (u ∷ us) up =
    let p = and_parts (below_all u us) (rises us) up in
    and_from (below_all u (take count us)) (rises (take count us)) (below-take u count us p.0) (rises-take count us p.1)

less_all : (n : ℕ) (us : List ℕ) → below_all n us ≡ true → AllByRecursion (λ y. nat_cmp n y ≡ Less) us
less_all n [] below = tt
less_all n (u ∷ us) below =
    let p = and_parts (nat_lt n u) (below_all n us) below in
    (ap (λ b. cond b Less (cond (nat_eq n u) Equal Greater)) p.0, less_all n us p.1)

-- numbers that rise are in strict order
pub sorted_rises : (us : List ℕ) → rises us ≡ true → IsStrictlySortedBy nat_cmp us
unfolding IsStrictlySortedBy
sorted_rises [] up = tt
sorted_rises (u ∷ us) up =
    let p = and_parts (below_all u us) (rises us) up in
    (less_all u us p.0, sorted_rises us p.1)

-- the first n of those above a number rise
pub above_sorted : (after : Option ℕ) (count : ℕ) (us : List ℕ) → rises us ≡ true → IsStrictlySortedBy nat_cmp (take count (above after us))
above_sorted None count us up = sorted_rises (take count us) (rises-take count us up)
above_sorted (Some n) count us up =
    sorted_rises (take count (filter (nat_lt n) us)) (rises-take count (filter (nat_lt n) us) (rises-filter (nat_lt n) us up))

-- ---- as many as are wanted

-- one more of them
pub one_more : (after last : Option ℕ) (us found : List ℕ) (u : ℕ) → rises us ≡ true → found ++ above last us ≡ above after us
    → Some u ≡ slice_get (above last us) 0 → (found ++ u ∷ []) ++ above (Some u) us ≡ above after us
one_more after last us found u up all first = by (above last us) refl first
  where
    by : (rest : List ℕ) → above last us ≡ rest → Some u ≡ slice_get rest 0 → (found ++ u ∷ []) ++ above (Some u) us ≡ above after us
    by [] is none = absurd (cc)
    by (x ∷ rest) is same =
        let head : x ≡ u = cc in
        append_assoc found (u ∷ []) (above (Some u) us)
        ∙ ap (λ others. found ++ u ∷ others) (above_next last us u rest up (is ∙ ap (λ y. y ∷ rest) head))
        ∙ ap (λ y. found ++ y ∷ rest) (sym head)
        ∙ ap (λ others. found ++ others) (sym is)
        ∙ all

-- no more of them
pub no_more : (after last : Option ℕ) (us found : List ℕ) (most : ℕ) → found ++ above last us ≡ above after us → None ≡ slice_get (above last us) 0
    → length found < most → found ≡ take most (above after us)
no_more after last us found most all none few = by (above last us) refl none
  where
    by : (rest : List ℕ) → above last us ≡ rest → None ≡ slice_get rest 0 → found ≡ take most (above after us)
    by [] is end =
        let whole : found ≡ above after us = sym (append-nil found) ∙ ap (λ others. found ++ others) (sym is) ∙ all in
        sym (take_all most found (omega (arith, few))) ∙ ap (take most) whole
    by (x ∷ rest) is some = absurd (cc)

-- enough of them
pub enough : (after last : Option ℕ) (us found : List ℕ) (most : ℕ) → found ++ above last us ≡ above after us → length found ≡ most → found ≡ take most (above after us)
enough after last us found most all many =
    sym (take_all most found (omega (arith, many)))
    ∙ sym (take-append-le most found (above last us) (omega (arith, many)))
    ∙ ap (take most) all
