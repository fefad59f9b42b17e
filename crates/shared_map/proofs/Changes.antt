-- What becomes of pairs with ascending keys by an insertion and by a removal.
use Rattle.std.proofs.Common.{◌≡◌, refl, sym, ap, ◌∙◌, true≢false, Bool, true, false, cond, List, [], ◌∷◌}
use Rattle.std.proofs.Common.{Ordering, Less, Equal, Greater, is_eq}
use Rattle.std.specs.Prelude.{Option, Some}
use Rattle.std.specs.BTreeMap.{is_at, insert_entry}
use Rattle.std.specs.Cmp.{IsTotalOrder, both_ways}
use Rattle.std.specs.List.{AllByRecursion}
use Rattle.std.specs.List.Sorted.{IsStrictlySortedBy}
use Rattle.std.specs.Map.{keys_of, lookup, remove_entry}
use Rattle.std.specs.Ordering.{match_ordering, ordering_reverse, eq_by_cmp}
use Rattle.shared_map.specs.Queries.{IsQuery}
use Rattle.shared_map.proofs.Keys.{each_key}

-- the keys at which a query is are equal to one another, and to no other key
key_test : {K : Type 0} {cmp : K → K → Ordering} {compare : K → Ordering} → IsQuery cmp compare
    → (x y : K) → is_at compare x ≡ true → is_at compare y ≡ eq_by_cmp cmp x y
key_test {cmp = cmp} {compare} query x y at_x = by (compare x) refl at_x
  where
    by : (o : Ordering) → compare x ≡ o → is_eq o ≡ true → is_at compare y ≡ eq_by_cmp cmp x y
    by Less e fails = absurd (true≢false (sym fails))
    by Equal e holds = ap is_eq (query.respects x y e)
    by Greater e fails = absurd (true≢false (sym fails))

-- ---- an insertion

-- each key of the pairs is an old one or the new one
pub each-insert_entry : {K X : Type 0} (P : K → Type 0) (cmp : K → K → Ordering) (key : K)
    (value : X) (es : List (K × X)) → P key → AllByRecursion P (keys_of es)
    → AllByRecursion P (keys_of (insert_entry cmp es key value))
each-insert_entry P cmp key value [] p all = (p, tt)
each-insert_entry {K} {X} P cmp key value (e ∷ es) p all =
    by (cmp key e.0) (each-insert_entry P cmp key value es p all.1)
  where
    by : (o : Ordering) → AllByRecursion P (keys_of (insert_entry cmp es key value))
        → AllByRecursion P (keys_of (match_ordering o ((key, value) ∷ e ∷ es)
        ((e.0, value) ∷ es) (e ∷ insert_entry cmp es key value)))
    by Less rest = (p, all)
    by Equal rest = all
    by Greater rest = (all.0, rest)

module _ {K X : Type 0} {cmp : K → K → Ordering} (total : IsTotalOrder cmp) (key : K)
    (value : X) where
  -- the keys still ascend
  pub ascends-insert_entry : (es : List (K × X)) → IsStrictlySortedBy cmp (keys_of es)
      → IsStrictlySortedBy cmp (keys_of (insert_entry cmp es key value))
  unfolding IsStrictlySortedBy
  ascends-insert_entry [] ascends = (tt, tt)
  ascends-insert_entry (e ∷ es) ascends =
      by (cmp key e.0) refl (ascends-insert_entry es ascends.1)
    where
      by : (o : Ordering) → cmp key e.0 ≡ o
          → IsStrictlySortedBy cmp (keys_of (insert_entry cmp es key value))
          → IsStrictlySortedBy cmp (keys_of (match_ordering o ((key, value) ∷ e ∷ es)
          ((e.0, value) ∷ es) (e ∷ insert_entry cmp es key value)))
      by Less less rest = (
        (less, each_key (λ other. total.trans key e.0 other less) (keys_of es) ascends.0),
        ascends,
      )
      by Equal equal rest = ascends
      by Greater greater rest = (
        each-insert_entry (λ other. cmp e.0 other ≡ Less) cmp key value es
            (total.antisymm e.0 key ∙ ap ordering_reverse greater) ascends.0,
        rest,
      )

  -- a query for the key finds the value, and any other what it found before
  pub lookup-insert_entry : {compare : K → Ordering} → IsQuery cmp compare → (es : List (K × X))
      → lookup (is_at compare) (insert_entry cmp es key value)
      ≡ cond (is_at compare key) (Some value) (lookup (is_at compare) es)
  lookup-insert_entry query [] = refl
  lookup-insert_entry {compare} query (e ∷ es) =
      by (cmp key e.0) refl (lookup-insert_entry query es)
    where
      back : (o : Ordering) → cmp key e.0 ≡ o → eq_by_cmp cmp e.0 key ≡ is_eq (ordering_reverse o)
      back o is = ap is_eq (total.antisymm e.0 key ∙ ap ordering_reverse is)

      over : (at_key : Bool) (old : Option X)
          → cond at_key (Some value) old
          ≡ cond at_key (Some value) (cond at_key (Some e.1) old)
      over true old = refl
      over false old = refl

      past : (at_key at_e : Bool) (new old : Option X) → (at_e ≡ true → at_key ≡ false)
          → new ≡ cond at_key (Some value) old
          → cond at_e (Some e.1) new ≡ cond at_key (Some value) (cond at_e (Some e.1) old)
      past at_key true new old apart rest =
          sym (ap (λ b. cond b (Some value) (Some e.1)) (apart refl))
      past at_key false new old apart rest = rest

      by : (o : Ordering) → cmp key e.0 ≡ o
          → lookup (is_at compare) (insert_entry cmp es key value)
          ≡ cond (is_at compare key) (Some value) (lookup (is_at compare) es)
          → lookup (is_at compare) (match_ordering o ((key, value) ∷ e ∷ es)
          ((e.0, value) ∷ es) (e ∷ insert_entry cmp es key value))
          ≡ cond (is_at compare key) (Some value)
          (cond (is_at compare e.0) (Some e.1) (lookup (is_at compare) es))
      by Less less rest = refl
      by Equal equal rest =
          let alike : is_at compare e.0 ≡ is_at compare key = both_ways _ _
          (λ holds. key_test query e.0 key holds ∙ back Equal equal)
          (λ holds. key_test query key e.0 holds ∙ ap is_eq equal) in
          ap (λ b. cond b (Some value) (lookup (is_at compare) es)) alike
          ∙ over (is_at compare key) (lookup (is_at compare) es)
          ∙ ap (λ b. cond (is_at compare key) (Some value)
          (cond b (Some e.1) (lookup (is_at compare) es))) (sym alike)
      by Greater greater rest =
          past (is_at compare key) (is_at compare e.0) _ (lookup (is_at compare) es)
          (λ holds. key_test query e.0 key holds ∙ back Greater greater) rest

-- ---- a removal

module _ {K X : Type 0} (test : K → Bool) where
  -- what holds of each key holds after a removal
  pub each-remove_entry : (P : K → Type 0) (es : List (K × X)) → AllByRecursion P (keys_of es)
      → AllByRecursion P (keys_of (remove_entry test es))
  each-remove_entry P [] all = tt
  each-remove_entry P (e ∷ es) all = by (test e.0) (each-remove_entry P es all.1)
    where
      by : (b : Bool) → AllByRecursion P (keys_of (remove_entry test es))
          → AllByRecursion P (keys_of (cond b es (e ∷ remove_entry test es)))
      by true rest = all.1
      by false rest = (all.0, rest)

  -- the keys still ascend
  pub ascends-remove_entry : (cmp : K → K → Ordering) (es : List (K × X))
      → IsStrictlySortedBy cmp (keys_of es)
      → IsStrictlySortedBy cmp (keys_of (remove_entry test es))
  unfolding IsStrictlySortedBy
  ascends-remove_entry cmp [] ascends = tt
  ascends-remove_entry cmp (e ∷ es) ascends =
      by (test e.0) (ascends-remove_entry cmp es ascends.1)
    where
      by : (b : Bool) → IsStrictlySortedBy cmp (keys_of (remove_entry test es))
          → IsStrictlySortedBy cmp (keys_of (cond b es (e ∷ remove_entry test es)))
      by true rest = ascends.1
      by false rest =
          (each-remove_entry (λ other. cmp e.0 other ≡ Less) es ascends.0, rest)

-- ---- values
