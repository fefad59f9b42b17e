-- The pairs of an RDN as a set.
use Rattle.std.proofs.Common.{◌≡◌, ℕ, ◌+◌, ◌<◌, List, [], ◌∷◌, ◌++◌, length, map, take, get_or, fold, refl, ◌∙◌, ap}
use Rattle.std.specs.declared.cmp.Ordering.{Ordering}
use Rattle.std.specs.declared.cmp.Ordering.TheVariants.{Less, Equal, Greater}
use Rattle.std.specs.Ordering.{match_ordering, nat_cmp}
use Rattle.std.specs.Cmp.Lexicographic.{slice_cmp}
use Rattle.std.specs.BTreeSet.{insert_key}
use Rattle.std.proofs.lemmas.List.{map-append, take_more}
use Rattle.std.proofs.lemmas.List.Sums.{fold-append}
use Rattle.dn_names.specs.Names.{TypeAndValue}
use Rattle.dn_names.proofs.Equality.{set_by}

-- keys that are compared by what they show are put in as that is
pub map-insert_key : {K L : Type 0} (show : K → L) (cmp : L → L → Ordering) (keys : List K) (key : K)
    → map show (insert_key (λ a b. cmp (show a) (show b)) keys key) ≡ insert_key cmp (map show keys) (show key)
map-insert_key show cmp [] key = refl
map-insert_key show cmp (k ∷ ks) key =
    elim (cmp (show key) (show k)) as
    (λ o. map show (match_ordering o (key ∷ k ∷ ks) (k ∷ ks) (k ∷ insert_key (λ a b. cmp (show a) (show b)) ks key))
    ≡ match_ordering o (show key ∷ show k ∷ map show ks) (show k ∷ map show ks) (show k ∷ insert_key cmp (map show ks) (show key)))
    [ Less ↦ refl | Equal ↦ refl | Greater ↦ ap (λ rest. show k ∷ rest) (map-insert_key show cmp ks key) ]

set_by-push : (text : TypeAndValue → List ℕ) (pairs : List TypeAndValue) (pair : TypeAndValue)
    → set_by text (pairs ++ pair ∷ []) ≡ insert_key (slice_cmp nat_cmp) (set_by text pairs) (text pair)
set_by-push text pairs pair =
    ap (fold (insert_key (slice_cmp nat_cmp)) []) (map-append text pairs (pair ∷ []))
    ∙ fold-append (insert_key (slice_cmp nat_cmp)) [] (map text pairs) (text pair ∷ [])

-- the set of the texts of some pairs with one more
pub set_by_more : (text : TypeAndValue → List ℕ) (pairs : List TypeAndValue) (i : ℕ) (d : TypeAndValue) → i < length pairs
    → set_by text (take (i + 1) pairs) ≡ insert_key (slice_cmp nat_cmp) (set_by text (take i pairs)) (text (get_or pairs i d))
set_by_more text pairs i d within = ap (set_by text) (take_more pairs i d within) ∙ set_by-push text (take i pairs) (get_or pairs i d)
