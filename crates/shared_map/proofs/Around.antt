-- Pairs with ascending keys as those before a pair, the pair, and those after it: what a look-up, a
-- change and a walk give there, by how the query or the key compares to that of the pair.
use Rattle.std.proofs.Common.{◌≡◌, refl, sym, ap, ◌∙◌, true≢false, Bool, true, false, cond, List, ◌∷◌, ◌++◌}
use Rattle.std.proofs.Common.{Ordering, Less, Equal, Greater, is_eq, is_le, is_lt}
use Rattle.std.specs.Prelude.{Some}
use Rattle.std.specs.BTreeMap.{is_at, insert_entry}
use Rattle.std.specs.BTreeMap.Comparable.{le_lt_trans}
use Rattle.std.specs.Cmp.{IsTotalOrder}
use Rattle.std.specs.List.{AllByRecursion, filter}
use Rattle.std.specs.List.Sorted.{IsStrictlySortedBy}
use Rattle.std.specs.Map.{keys_of, lookup_entry, remove_entry}
use Rattle.std.specs.Option.{option_or}
use Rattle.std.specs.Ordering.{match_ordering}
use Rattle.shared_map.specs.Queries.{IsQuery}
use Rattle.shared_map.proofs.Keys.{each_key, below_pair, above_pair}
use Rattle.shared_map.proofs.Parts.{NoKey, lookup_entry-before, lookup_entry-append, lookup_entry-after, remove_entry-before, remove_entry-after, filter-none, filter-each, filter-append, insert_entry-before, insert_entry-after}

-- a key is a query for itself
pub IsQuery-key : {K : Type 0} {cmp : K → K → Ordering} → IsTotalOrder cmp → (key : K)
    → IsQuery cmp (cmp key)
IsQuery-key total key = record {
  respects = total.congr key;
  below_greater = le_lt_trans total key;
}

module _ {K X : Type 0} {cmp : K → K → Ordering} {compare : K → Ordering}
    (query : IsQuery cmp compare) (l : List (K × X)) (x : K × X) (r : List (K × X))
    (ascends : IsStrictlySortedBy cmp (keys_of (l ++ x ∷ r))) where
  greater_below : is_lt (compare x.0) ≡ false → (key : K) → cmp key x.0 ≡ Less
      → compare key ≡ Greater
  greater_below not_less key below = by (compare key) refl
    where
      less : is_le (compare key) ≡ true → compare x.0 ≡ Less
      less le = query.below_greater key x.0 le below

      by : (o : Ordering) → compare key ≡ o → o ≡ Greater
      by Less e = absurd (true≢false (sym (ap is_lt (less (ap is_le e))) ∙ not_less))
      by Equal e = absurd (true≢false (sym (ap is_lt (less (ap is_le e))) ∙ not_less))
      by Greater e = refl

  -- where the pair is not above the query, it is above all before the pair
  pub all_before : is_lt (compare x.0) ≡ false
      → AllByRecursion (λ key. compare key ≡ Greater) (keys_of l)
  all_before not_less = each_key (greater_below not_less) (keys_of l) (below_pair cmp l x r ascends)

  -- where the pair is not below the query, it is below all after the pair
  pub all_after : is_le (compare x.0) ≡ true
      → AllByRecursion (λ key. compare key ≡ Less) (keys_of r)
  all_after le =
      each_key (λ key. query.below_greater x.0 key le) (keys_of r) (above_pair cmp l x r ascends)

  none_before : (test : Ordering → Bool) → test Greater ≡ false → is_lt (compare x.0) ≡ false
      → NoKey (λ key. test (compare key)) l
  none_before test fails not_less =
      each_key (λ key e. ap test e ∙ fails) (keys_of l) (all_before not_less)

  none_after : (test : Ordering → Bool) → test Less ≡ false → is_le (compare x.0) ≡ true
      → NoKey (λ key. test (compare key)) r
  none_after test fails le = each_key (λ key e. ap test e ∙ fails) (keys_of r) (all_after le)

  -- a look-up goes to the side of the pair on which the key is
  pub lookup_entry-around : (o : Ordering) → compare x.0 ≡ o
      → lookup_entry (is_at compare) (l ++ x ∷ r)
      ≡ match_ordering o (lookup_entry (is_at compare) l) (Some x)
      (lookup_entry (is_at compare) r)
  lookup_entry-around Less e =
      lookup_entry-before (is_at compare) l (x ∷ r)
      (ap is_eq e, none_after is_eq refl (ap is_le e))
  lookup_entry-around Equal e =
      lookup_entry-after (is_at compare) l (x ∷ r) (none_before is_eq refl (ap is_lt e))
      ∙ ap (λ b. cond b (Some x) (lookup_entry (is_at compare) r)) (ap is_eq e)
  lookup_entry-around Greater e =
      lookup_entry-after (is_at compare) l (x ∷ r) (none_before is_eq refl (ap is_lt e))
      ∙ ap (λ b. cond b (Some x) (lookup_entry (is_at compare) r)) (ap is_eq e)

  -- so does a removal
  pub remove_entry-around : (o : Ordering) → compare x.0 ≡ o
      → remove_entry (is_at compare) (l ++ x ∷ r)
      ≡ match_ordering o (remove_entry (is_at compare) l ++ x ∷ r) (l ++ r)
      (l ++ x ∷ remove_entry (is_at compare) r)
  remove_entry-around Less e =
      remove_entry-before (is_at compare) l (x ∷ r)
      (ap is_eq e, none_after is_eq refl (ap is_le e))
  remove_entry-around Equal e =
      remove_entry-after (is_at compare) l (x ∷ r) (none_before is_eq refl (ap is_lt e))
      ∙ ap (λ b. l ++ cond b r (x ∷ remove_entry (is_at compare) r)) (ap is_eq e)
  remove_entry-around Greater e =
      remove_entry-after (is_at compare) l (x ∷ r) (none_before is_eq refl (ap is_lt e))
      ∙ ap (λ b. l ++ cond b r (x ∷ remove_entry (is_at compare) r)) (ap is_eq e)

  -- the first pair that is not below the query
  pub from-around : (b : Bool) → is_le (compare x.0) ≡ b
      → lookup_entry (λ key. is_le (compare key)) (l ++ x ∷ r)
      ≡ cond b (option_or (lookup_entry (λ key. is_le (compare key)) l) (Some x))
      (lookup_entry (λ key. is_le (compare key)) r)
  from-around true e =
      lookup_entry-append (λ key. is_le (compare key)) l (x ∷ r)
      ∙ ap (λ b. option_or (lookup_entry (λ key. is_le (compare key)) l)
      (cond b (Some x) (lookup_entry (λ key. is_le (compare key)) r))) e
  from-around false e =
      lookup_entry-after (λ key. is_le (compare key)) l (x ∷ r)
      (none_before is_le refl (not_less (compare x.0) e))
      ∙ ap (λ b. cond b (Some x) (lookup_entry (λ key. is_le (compare key)) r)) e
    where
      not_less : (o : Ordering) → is_le o ≡ false → is_lt o ≡ false
      not_less Less fails = fails
      not_less Equal fails = refl
      not_less Greater fails = refl

  -- the first pair that is above the query
  pub after-around : (b : Bool) → is_lt (compare x.0) ≡ b
      → lookup_entry (λ key. is_lt (compare key)) (l ++ x ∷ r)
      ≡ cond b (option_or (lookup_entry (λ key. is_lt (compare key)) l) (Some x))
      (lookup_entry (λ key. is_lt (compare key)) r)
  after-around true e =
      lookup_entry-append (λ key. is_lt (compare key)) l (x ∷ r)
      ∙ ap (λ b. option_or (lookup_entry (λ key. is_lt (compare key)) l)
      (cond b (Some x) (lookup_entry (λ key. is_lt (compare key)) r))) e
  after-around false e =
      lookup_entry-after (λ key. is_lt (compare key)) l (x ∷ r) (none_before is_lt refl e)
      ∙ ap (λ b. cond b (Some x) (lookup_entry (λ key. is_lt (compare key)) r)) e

  -- the pairs that are above the query
  pub filter-around : (b : Bool) → is_lt (compare x.0) ≡ b
      → filter (λ e. is_lt (compare e.0)) (l ++ x ∷ r)
      ≡ cond b (filter (λ e. is_lt (compare e.0)) l ++ x ∷ r)
      (filter (λ e. is_lt (compare e.0)) r)
  filter-around true e =
      filter-append (λ key. is_lt (compare key)) l (x ∷ r)
      ∙ ap (λ rest. filter (λ e. is_lt (compare e.0)) l ++ rest)
      (filter-each (λ key. is_lt (compare key)) (x ∷ r)
      (e, each_key (λ key e. ap is_lt e) (keys_of r) (all_after (le (compare x.0) e))))
    where
      le : (o : Ordering) → is_lt o ≡ true → is_le o ≡ true
      le Less holds = refl
      le Equal holds = refl
      le Greater holds = holds
  filter-around false e =
      filter-append (λ key. is_lt (compare key)) l (x ∷ r)
      ∙ ap (λ before. before ++ filter (λ e. is_lt (compare e.0)) (x ∷ r))
      (filter-none (λ key. is_lt (compare key)) l (none_before is_lt refl e))
      ∙ ap (λ b. cond b (x ∷ filter (λ e. is_lt (compare e.0)) r)
      (filter (λ e. is_lt (compare e.0)) r)) e

module _ {K X : Type 0} {cmp : K → K → Ordering} (total : IsTotalOrder cmp) (key : K) (value : X)
    (l : List (K × X)) (x : K × X) (r : List (K × X))
    (ascends : IsStrictlySortedBy cmp (keys_of (l ++ x ∷ r))) where
  -- so does an insertion
  pub insert_entry-around : (o : Ordering) → cmp key x.0 ≡ o
      → insert_entry cmp (l ++ x ∷ r) key value
      ≡ match_ordering o (insert_entry cmp l key value ++ x ∷ r) (l ++ (x.0, value) ∷ r)
      (l ++ x ∷ insert_entry cmp r key value)
  insert_entry-around Less e = insert_entry-before cmp key value l x r e
  insert_entry-around Equal e =
      insert_entry-after cmp key value l (x ∷ r)
      (all_before (IsQuery-key total key) l x r ascends (ap is_lt e))
      ∙ ap (λ o. l ++ match_ordering o ((key, value) ∷ x ∷ r) ((x.0, value) ∷ r)
      (x ∷ insert_entry cmp r key value)) e
  insert_entry-around Greater e =
      insert_entry-after cmp key value l (x ∷ r)
      (all_before (IsQuery-key total key) l x r ascends (ap is_lt e))
      ∙ ap (λ o. l ++ match_ordering o ((key, value) ∷ x ∷ r) ((x.0, value) ∷ r)
      (x ∷ insert_entry cmp r key value)) e
