-- Lists of keys and values whose keys ascend, as one key's value is set.
use Rattle.std.proofs.Common.{◌≡◌, ◌<◌, ◌+◌, ℕ, Bool, true, false, cond, nat_lt, nat_eq, List, [], ◌∷◌, map, Bor, Option, Some, None, refl, sym, ap, ◌∙◌, ◌⊎◌, inl, inr, arith}
use Rattle.std.specs.Prelude.{is_some, option_copied}
use Rattle.std.specs.BTreeMap.{insert_entry, is_at}
use Rattle.std.specs.BTreeSet.{insert_key}
use Rattle.std.specs.Cmp.{nat_cmp_is, unsigned_ties}
use Rattle.std.specs.List.{list_any, sum_by}
use Rattle.std.specs.Map.{keys_of, values_of, lookup, remove_entry}
use Rattle.std.specs.Ordering.{nat_cmp, match_ordering}
use Rattle.std.specs.declared.cmp.Ordering.{Ordering}
use Rattle.std.specs.declared.cmp.Ordering.TheVariants.{Less, Equal, Greater}
use Rattle.std.proofs.lemmas.Bool.{and_parts, eq-eqb, ne_eqb, ltb-true, cases_order}
use Rattle.std.proofs.lemmas.Bool.Decides.{nat_tests}
use Rattle.std.proofs.lemmas.List.Sums.{sum_by-cons}
use Rattle.std.proofs.lemmas.Map.Lookups.{exact_unsigned}
use Rattle.std.proofs.lemmas.Map.Made.{is_some-lookup}
use Rattle.sync_model.specs.Stream.{among}
use Rattle.entry_tree.specs.Touched.{rises}
use Rattle.sync_consumer.proofs.Rising.{tail_rises, head_below}
use Rattle.entry_tree.proofs.Rising.{below_lower, below_all, rises-insert}

off : (u n : ℕ) → n < u → nat_eq u n ≡ false
off u n less = ne_eqb u n (λ same. omega (arith, less, same))

before : (u n : ℕ) → u < n → nat_eq u n ≡ false
before u n less = ne_eqb u n (λ same. omega (arith, less, same))

module _ {X : Type 0} where
  -- nothing is at a key below all
  pub lookup_below : (es : List (ℕ × X)) (u : ℕ) → below_all u (keys_of es) ≡ true → lookup (nat_eq u) es ≡ None
  lookup_below [] u below = refl
  lookup_below (e ∷ es) u below =
      let p = and_parts (nat_lt u e.0) (below_all u (keys_of es)) below in
      ap (λ b. cond b (Some e.1) (lookup (nat_eq u) es)) (before u e.0 (ltb-true u e.0 p.0)) ∙ lookup_below es u p.1

  -- a value is at a key exactly where that is among the keys
  pub has_key : (es : List (ℕ × X)) (u : ℕ) (found : Option (Bor X)) → option_copied found ≡ lookup (is_at (nat_cmp u)) es → is_some found ≡ among u (keys_of es)
  has_key es u found is =
      copied found ∙ ap is_some is ∙ is_some-lookup (is_at (nat_cmp u)) es ∙ ap (λ test. list_any test (keys_of es)) (λ i k. sym (unsigned_ties u k) i)
    where
      copied : (found : Option (Bor X)) → is_some found ≡ is_some (option_copied found)
      copied None = refl
      copied (Some x) = refl

  -- ---- the order of the keys

  -- the keys with one more at its place
  pub keys-staged_each : (es : List (ℕ × X)) (u : ℕ) (x : X) → keys_of (insert_entry nat_cmp es u x) ≡ insert_key nat_cmp (keys_of es) u
  keys-staged_each [] u x = refl
  keys-staged_each (e ∷ es) u x = grind (arith, nat_tests, keys-staged_each es u x)

  -- keys ascend with one more at its place
  pub rises-staged_each : (es : List (ℕ × X)) (u : ℕ) (x : X) → rises (keys_of es) ≡ true → rises (keys_of (insert_entry nat_cmp es u x)) ≡ true
  rises-staged_each es u x up = ap rises (keys-staged_each es u x) ∙ rises-insert (keys_of es) u up

  -- ---- keys that are read off the values

  module _ (key : X → ℕ) where
    abbrev pub AreOwn : List (ℕ × X) → Type 0
    AreOwn es = keys_of es ≡ map key (values_of es)

    -- the first one, and those after it
    pub head_own : (e : ℕ × X) (es : List (ℕ × X)) → AreOwn (e ∷ es) → (e.0 ≡ key e.1) × AreOwn es
    head_own e es own = let first : e.0 ≡ key e.1 = (cc) in let rest : keys_of es ≡ map key (values_of es) = (cc) in (first, rest)

    -- they are so with one more
    pub own-insert : (es : List (ℕ × X)) (u : ℕ) (x : X) → key x ≡ u → AreOwn es → AreOwn (insert_entry nat_cmp es u x)
    own-insert [] u x is own = λ i. sym is i ∷ []
    own-insert (e ∷ es) u x is own = let p = head_own e es own in by (nat_cmp u e.0) refl p.0 p.1 (own-insert es u x is p.1)
      where
        by : (o : Ordering) → nat_cmp u e.0 ≡ o → e.0 ≡ key e.1 → AreOwn es → AreOwn (insert_entry nat_cmp es u x)
            → AreOwn (match_ordering o ((u, x) ∷ e ∷ es) ((e.0, x) ∷ es) (e ∷ insert_entry nat_cmp es u x))
        by Less at first rest more = λ i. sym is i ∷ first i ∷ rest i
        by Equal at first rest more = λ i. (sym (exact_unsigned u e.0 at) ∙ sym is) i ∷ rest i
        by Greater at first rest more = λ i. first i ∷ more i

    -- they are so without one
    pub own-remove : (test : ℕ → Bool) (es : List (ℕ × X)) → AreOwn es → AreOwn (remove_entry test es)
    own-remove test [] own = own
    own-remove test (e ∷ es) own = let p = head_own e es own in by (test e.0) p.0 p.1 (own-remove test es p.1)
      where
        by : (b : Bool) → e.0 ≡ key e.1 → AreOwn es → AreOwn (remove_entry test es) → AreOwn (cond b es (e ∷ remove_entry test es))
        by true first rest less = rest
        by false first rest less = λ i. first i ∷ less i

  -- ---- a sum over the values

  module _ (f : X → ℕ) where
    -- the sum of what the values weigh
    abbrev pub total : List (ℕ × X) → ℕ
    total es = sum_by (λ (e : ℕ × X). f e.1) es

    -- what the value weighs, or nothing where there is none
    abbrev pub at_slot : Option X → ℕ
    at_slot None = 0
    at_slot (Some x) = f x

    abbrev one : ℕ × X → ℕ
    one e = f e.1

    -- the sum after a value is put in place of that of its key
    pub total-staged_each : (es : List (ℕ × X)) (u : ℕ) (x : X) → rises (keys_of es) ≡ true
        → total (insert_entry nat_cmp es u x) + at_slot (lookup (nat_eq u) es) ≡ total es + f x
    total-staged_each [] u x up = omega (arith, sum_by-cons one (u, x) [])
    total-staged_each (e ∷ es) u x up = by (total-staged_each es u x (tail_rises e.0 (keys_of es) up)) (cases_order u e.0)
      where
        staged_by : {o : Ordering} → o ≡ nat_cmp u e.0 → insert_entry nat_cmp (e ∷ es) u x ≡ match_ordering o ((u, x) ∷ e ∷ es) ((e.0, x) ∷ es) (e ∷ insert_entry nat_cmp es u x)
        staged_by is = ap (λ o. match_ordering o ((u, x) ∷ e ∷ es) ((e.0, x) ∷ es) (e ∷ insert_entry nat_cmp es u x)) (sym is)

        slot_by : (b : Bool) → nat_eq u e.0 ≡ b → at_slot (lookup (nat_eq u) (e ∷ es)) ≡ at_slot (cond b (Some e.1) (lookup (nat_eq u) es))
        slot_by b is = ap (λ b. at_slot (cond b (Some e.1) (lookup (nat_eq u) es))) is

        by : total (insert_entry nat_cmp es u x) + at_slot (lookup (nat_eq u) es) ≡ total es + f x → (u ≡ e.0) ⊎ ((u < e.0) ⊎ (e.0 < u))
            → total (insert_entry nat_cmp (e ∷ es) u x) + at_slot (lookup (nat_eq u) (e ∷ es)) ≡ total (e ∷ es) + f x
        by ih (inl same) =
            let now = ap total (staged_by (nat_cmp_is u e.0 Equal same)) in
            let found = slot_by true (eq-eqb u e.0 same) in
            omega (arith, now, found, sum_by-cons one (e.0, x) es, sum_by-cons one e es)
        by ih (inr (inl less)) =
            let now = ap total (staged_by (nat_cmp_is u e.0 Less less)) in
            let found = slot_by false (before u e.0 less) in
            let none = ap at_slot (lookup_below es u (below_lower u e.0 (keys_of es) less (head_below e.0 (keys_of es) up))) in
            omega (arith, now, found, none, sum_by-cons one (u, x) (e ∷ es))
        by ih (inr (inr more)) =
            let now = ap total (staged_by (nat_cmp_is u e.0 Greater more)) in
            let found = slot_by false (off u e.0 more) in
            omega (arith, ih, now, found, sum_by-cons one e (insert_entry nat_cmp es u x), sum_by-cons one e es)
