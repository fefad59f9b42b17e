-- Keys that begin with some octets, among pairs with ascending keys.
use Rattle.std.proofs.Common.{◌≡◌, ◌<◌, ◌⊎◌, ℕ, Bool, true, false, cond, nat_eq, List, [], ◌∷◌, ◌++◌, length, drop, Vec, Global, refl, sym, ap, ◌∙◌, true≢false, append-nil, arith, inl, inr}
use Rattle.std.specs.Cmp.{nat_cmp_total, tied_itself}
use Rattle.std.specs.Cmp.Lexicographic.{slice_cmp, nat_list_cmp_total}
use Rattle.std.specs.BTreeMap.Comparable.{le_lt_trans}
use Rattle.std.specs.List.{filter, starts_with}
use Rattle.std.specs.List.Sorted.{IsStrictlySortedBy}
use Rattle.std.specs.Map.{keys_of}
use Rattle.std.specs.Ordering.{nat_cmp, is_eq, is_gt, is_le, is_lt, match_ordering, ordering_then}
use Rattle.std.specs.declared.cmp.Ordering.{Ordering}
use Rattle.std.specs.declared.cmp.Ordering.TheVariants.{Less, Equal, Greater}
use Rattle.std.proofs.lemmas.Bool.{cases_order, false≢true}
use Rattle.std.proofs.lemmas.Bool.Decides.{Decides-eqb, nat_tests}
use Rattle.std.proofs.lemmas.Slice.Eq.{starts_is}
use Rattle.shared_map.specs.Queries.{octets_cmp, begins, place_at}
use Rattle.shared_map.proofs.Keys.{each_key, below_pair, above_pair}
use Rattle.shared_map.proofs.Parts.{filter-append, filter-none}

-- ---- the order of texts

-- a text that is another with more after it begins with it
pub begun_by : (text path tail : List ℕ) → text ≡ path ++ tail → starts_with nat_eq text path ≡ true
begun_by text path tail is = (starts_is Decides-eqb text path (starts_with nat_eq text path) refl).1 tail is

-- and what begins with another is that with more after it
begun_in : (text path : List ℕ) → starts_with nat_eq text path ≡ true → (rest : List ℕ) × (text ≡ path ++ rest)
begun_in text path begun =
    (drop (length path) text, (starts_is Decides-eqb text path (starts_with nat_eq text path) refl).0 begun)

-- a text between one and a longer one that begins with it begins with it too
pub between : (path next rest : List ℕ) → is_gt (slice_cmp nat_cmp path next) ≡ false → is_gt (slice_cmp nat_cmp next (path ++ rest)) ≡ false
    → (tail : List ℕ) × (next ≡ path ++ tail)
between [] next rest low high = (next, refl)
between (x ∷ path) [] rest low high = absurd (false≢true (sym low))
between (x ∷ path) (y ∷ next) rest low high = by (between path next rest) (cases_order x y)
  where
    less_above : (a b : ℕ) → a < b → nat_cmp b a ≡ Greater
    less_above a b less = grind (arith, nat_tests)

    by : (is_gt (slice_cmp nat_cmp path next) ≡ false → is_gt (slice_cmp nat_cmp next (path ++ rest)) ≡ false → (tail : List ℕ) × (next ≡ path ++ tail))
        → (x ≡ y) ⊎ ((x < y) ⊎ (y < x)) → (tail : List ℕ) × (y ∷ next ≡ x ∷ (path ++ tail))
    by later (inl same) =
        let tied : nat_cmp x y ≡ Equal = ap (nat_cmp x) (sym same) ∙ tied_itself nat_cmp_total x in
        let back : nat_cmp y x ≡ Equal = ap (λ n. nat_cmp n x) (sym same) ∙ tied_itself nat_cmp_total x in
        let others = later
        (sym (ap (λ o. is_gt (ordering_then o (slice_cmp nat_cmp path next))) tied) ∙ low)
        (sym (ap (λ o. is_gt (ordering_then o (slice_cmp nat_cmp next (path ++ rest)))) back) ∙ high) in
        (others.0, λ i. sym same i ∷ others.1 i)
    by later (inr (inl less)) = absurd (false≢true (sym high ∙ ap (λ o. is_gt (ordering_then o (slice_cmp nat_cmp next (path ++ rest)))) (less_above x y less)))
    by later (inr (inr more)) = absurd (false≢true (sym low ∙ ap (λ o. is_gt (ordering_then o (slice_cmp nat_cmp path next))) (less_above y x more)))

-- a text is not above one that begins with it
le_longer : (path rest : List ℕ) → is_le (slice_cmp nat_cmp path (path ++ rest)) ≡ true
le_longer [] [] = refl
le_longer [] (y ∷ rest) = refl
le_longer (x ∷ path) rest = ap (λ o. is_le (ordering_then o (slice_cmp nat_cmp path (path ++ rest)))) (tied_itself nat_cmp_total x) ∙ le_longer path rest

-- ---- keys on both sides of one

-- no key below one that is not above the octets begins with them
before_apart : (octets : List ℕ) (one key : Vec ℕ Global) → is_lt (slice_cmp nat_cmp octets one.items) ≡ false → octets_cmp key one ≡ Less → begins octets key ≡ false
before_apart octets one key not_above less = by (begins octets key) refl
  where
    by : (b : Bool) → begins octets key ≡ b → b ≡ false
    by false apart = refl
    by true begun =
        let rest = begun_in key.items octets begun in
        let low : is_le (slice_cmp nat_cmp octets key.items) ≡ true = ap (λ text. is_le (slice_cmp nat_cmp octets text)) rest.1 ∙ le_longer octets rest.0 in
        absurd (true≢false (sym (ap is_lt (le_lt_trans nat_list_cmp_total octets key.items one.items low less)) ∙ not_above))

not_greater : (o : Ordering) → is_lt o ≡ true → is_gt o ≡ false
not_greater Less less = refl
not_greater Equal never = refl
not_greater Greater never = absurd (false≢true never)

-- nor does one above a key that is above the octets and does not begin with them
after_apart : (octets : List ℕ) (one key : Vec ℕ Global) → is_lt (slice_cmp nat_cmp octets one.items) ≡ true → begins octets one ≡ false → octets_cmp one key ≡ Less → begins octets key ≡ false
after_apart octets one key above apart less = by (begins octets key) refl
  where
    by : (b : Bool) → begins octets key ≡ b → b ≡ false
    by false other = refl
    by true begun =
        let rest = begun_in key.items octets begun in
        let low : is_gt (slice_cmp nat_cmp octets one.items) ≡ false = not_greater (slice_cmp nat_cmp octets one.items) above in
        let high : is_gt (slice_cmp nat_cmp one.items (octets ++ rest.0)) ≡ false = ap (λ text. is_gt (slice_cmp nat_cmp one.items text)) (sym rest.1) ∙ ap is_gt less in
        let tail = between octets one.items rest.0 low high in
        absurd (false≢true (sym apart ∙ begun_by one.items octets tail.0 tail.1))

-- ---- what a place says of a key

begun_at : (b above : Bool) → cond b Equal (cond above Less Greater) ≡ Equal → b ≡ true
begun_at true above is = refl
begun_at false true is = absurd (false≢true (ap is_eq is))
begun_at false false is = absurd (false≢true (ap is_eq is))

apart_above : (b above : Bool) → cond b Equal (cond above Less Greater) ≡ Less → (b ≡ false) × (above ≡ true)
apart_above true above is = absurd (true≢false (ap is_eq is))
apart_above false true is = (refl, refl)
apart_above false false is = absurd (false≢true (ap is_lt is))

apart_below : (b above : Bool) → cond b Equal (cond above Less Greater) ≡ Greater → (b ≡ false) × (above ≡ false)
apart_below true above is = absurd (true≢false (ap is_eq is))
apart_below false true is = absurd (true≢false (ap is_lt is))
apart_below false false is = (refl, refl)

-- ---- pairs around one

module _ {X : Type 0} (octets : List ℕ) (l : List (Vec ℕ Global × X)) (x : Vec ℕ Global × X) (r : List (Vec ℕ Global × X))
    (ascends : IsStrictlySortedBy octets_cmp (keys_of (l ++ x ∷ r))) where
  -- the pairs whose keys begin with the octets, by where these stand to the key of one pair
  pub within-around : (o : Ordering) → place_at octets x.0 ≡ o
      → filter (λ e. begins octets e.0) (l ++ x ∷ r)
      ≡ match_ordering o (filter (λ e. begins octets e.0) l)
      (filter (λ e. begins octets e.0) l ++ x ∷ filter (λ e. begins octets e.0) r)
      (filter (λ e. begins octets e.0) r)
  within-around Less is =
      let apart = apart_above (begins octets x.0) (is_lt (slice_cmp nat_cmp octets x.0.items)) is in
      filter-append (begins octets) l (x ∷ r)
      ∙ ap (λ after. filter (λ e. begins octets e.0) l ++ after)
      (filter-none (begins octets) (x ∷ r)
      (apart.0, each_key (λ key less. after_apart octets x.0 key apart.1 apart.0 less) (keys_of r) (above_pair octets_cmp l x r ascends)))
      ∙ append-nil (filter (λ e. begins octets e.0) l)
  within-around Equal is =
      filter-append (begins octets) l (x ∷ r)
      ∙ ap (λ b. filter (λ e. begins octets e.0) l ++ cond b (x ∷ filter (λ e. begins octets e.0) r) (filter (λ e. begins octets e.0) r))
      (begun_at (begins octets x.0) (is_lt (slice_cmp nat_cmp octets x.0.items)) is)
  within-around Greater is =
      let apart = apart_below (begins octets x.0) (is_lt (slice_cmp nat_cmp octets x.0.items)) is in
      filter-append (begins octets) l (x ∷ r)
      ∙ ap (λ before. before ++ filter (λ e. begins octets e.0) (x ∷ r))
      (filter-none (begins octets) l (each_key (λ key less. before_apart octets x.0 key apart.1 less) (keys_of l) (below_pair octets_cmp l x r ascends)))
      ∙ ap (λ b. cond b (x ∷ filter (λ e. begins octets e.0) r) (filter (λ e. begins octets e.0) r)) apart.0
