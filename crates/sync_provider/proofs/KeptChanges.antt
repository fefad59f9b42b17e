-- Identities that are kept as the keys of a map.
use Rattle.std.proofs.Common.{◌≡◌, ℕ, Bool, true, false, cond, nat_eq, nat_lt, List, [], ◌∷◌, ◌++◌, refl, ap, ◌∙◌, append-nil}
use Rattle.std.specs.List.{AllByRecursion, flat_map}
use Rattle.std.specs.BTreeMap.{insert_entry}
use Rattle.std.specs.BTreeSet.{insert_key}
use Rattle.std.specs.List.Sorted.{IsStrictlySortedBy}
use Rattle.std.specs.Map.{keys_of}
use Rattle.std.specs.Ordering.{match_ordering, nat_cmp}
use Rattle.std.specs.declared.cmp.Ordering.{Ordering}
use Rattle.std.specs.declared.cmp.Ordering.TheVariants.{Less, Equal, Greater}
use Rattle.std.proofs.lemmas.Bool.{and_from}
use Rattle.std.proofs.lemmas.Grind.{flat_map-append}
use Rattle.std.proofs.lemmas.List.Sums.{fold-append}
use Rattle.entry_tree.specs.Touched.{joined, rises}
use Rattle.entry_tree.proofs.Rising.{below_all}
use Rattle.sync_model.specs.Incremental.{about}
use Rattle.sync_model.specs.Message.{SyncMessage}

-- a key more
pub key_put : {X : Type 0} → (pairs : List (ℕ × X)) (u : ℕ) (x : X) → keys_of (insert_entry nat_cmp pairs u x) ≡ insert_key nat_cmp (keys_of pairs) u
key_put [] u x = refl
key_put {X} (p ∷ pairs) u x = by (nat_cmp u p.0) (key_put pairs u x)
  where
    by : (o : Ordering) → keys_of (insert_entry nat_cmp pairs u x) ≡ insert_key nat_cmp (keys_of pairs) u
        → keys_of (match_ordering o ((u, x) ∷ p ∷ pairs) ((p.0, x) ∷ pairs) (p ∷ insert_entry nat_cmp pairs u x))
        ≡ match_ordering o (u ∷ p.0 ∷ keys_of pairs) (p.0 ∷ keys_of pairs) (p.0 ∷ insert_key nat_cmp (keys_of pairs) u)
    by Less rest = refl
    by Equal rest = refl
    by Greater rest = ap (λ keys. p.0 ∷ keys) rest

-- what one message more is about
pub about_more : (set : List ℕ) (before : List SyncMessage) (m : SyncMessage) (u : ℕ) → about m ≡ u ∷ [] → joined set (flat_map about (before ++ m ∷ [])) ≡ insert_key nat_cmp (joined set (flat_map about before)) u
about_more set before m u is =
    ap (joined set) (flat_map-append about before (m ∷ []))
    ∙ ap (λ us. joined set (flat_map about before ++ us)) (append-nil (about m) ∙ is)
    ∙ fold-append (insert_key nat_cmp) set (flat_map about before) (u ∷ [])

-- ---- their order

less_is : (x y : ℕ) → nat_cmp x y ≡ Less → nat_lt x y ≡ true
less_is x y less = by (nat_lt x y) (nat_eq x y) less
  where
    by : (below same : Bool) → cond below Less (cond same Equal Greater) ≡ Less → below ≡ true
    by true same is = refl
    by false true is = absurd (cc)
    by false false is = absurd (cc)

all_below : (x : ℕ) (us : List ℕ) → AllByRecursion (λ y. nat_cmp x y ≡ Less) us → below_all x us ≡ true
all_below x [] all = refl
all_below x (u ∷ us) all = and_from (nat_lt x u) (below_all x us) (less_is x u all.0) (all_below x us all.1)

-- numbers in strict order rise
pub sorted_rise : (us : List ℕ) → IsStrictlySortedBy nat_cmp us → rises us ≡ true
unfolding IsStrictlySortedBy
sorted_rise [] sorted = refl
sorted_rise (u ∷ us) sorted = and_from (below_all u us) (rises us) (all_below u us sorted.0) (sorted_rise us sorted.1)
