-- What becomes of two lists of pairs, one after the other, where a test fails at one of them.
use Rattle.std.proofs.Common.{◌≡◌, refl, sym, ap, ◌∙◌, append_assoc, Bool, true, false, cond, List, [], ◌∷◌, ◌++◌}
use Rattle.std.proofs.Common.{Ordering, Less, Equal, Greater}
use Rattle.std.specs.Prelude.{Option, None, Some}
use Rattle.std.specs.BTreeMap.{insert_entry}
use Rattle.std.specs.List.{AllByRecursion, filter}
use Rattle.std.specs.Map.{keys_of, lookup, lookup_entry, remove_entry}
use Rattle.std.specs.Option.{option_map, option_or}
use Rattle.std.specs.Ordering.{match_ordering}

-- no key of the pairs passes the test
abbrev pub NoKey : {K X : Type 0} → (K → Bool) → List (K × X) → Type 0
NoKey test es = AllByRecursion (λ key. test key ≡ false) (keys_of es)

module _ {K X : Type 0} (test : K → Bool) where
  -- the value that is looked up is that of the pair
  pub value_found : {found : Option (K × X)} (es : List (K × X)) → found ≡ lookup_entry test es
      → option_map (λ (e : K × X). e.1) found ≡ lookup test es
  value_found [] is = ap (option_map (λ (e : K × X). e.1)) is
  value_found {found = found} (e ∷ es) is =
      ap (option_map (λ (e : K × X). e.1)) is ∙ by (test e.0) (value_found {found = lookup_entry test es} es refl)
    where
      by : (b : Bool) → option_map (λ (e : K × X). e.1) (lookup_entry test es) ≡ lookup test es
          → option_map (λ (e : K × X). e.1) (cond b (Some e) (lookup_entry test es))
          ≡ cond b (Some e.1) (lookup test es)
      by true rest = refl
      by false rest = rest

  -- a key that is not there is not found
  pub lookup_entry-none : (es : List (K × X)) → NoKey test es → lookup_entry test es ≡ None
  lookup_entry-none [] fails = refl
  lookup_entry-none (e ∷ es) fails =
      ap (λ b. cond b (Some e) (lookup_entry test es)) fails.0 ∙ lookup_entry-none es fails.1

  -- where it is not in the second list, a look-up is one in the first
  pub lookup_entry-before : (l r : List (K × X)) → NoKey test r
      → lookup_entry test (l ++ r) ≡ lookup_entry test l
  lookup_entry-before [] r fails = lookup_entry-none r fails
  lookup_entry-before (e ∷ l) r fails =
      ap (cond (test e.0) (Some e)) (lookup_entry-before l r fails)

  -- the first that passes is in the first list, if one is
  pub lookup_entry-append : (l r : List (K × X))
      → lookup_entry test (l ++ r) ≡ option_or (lookup_entry test l) (lookup_entry test r)
  lookup_entry-append [] r = refl
  lookup_entry-append (e ∷ l) r = by (test e.0) (lookup_entry-append l r)
    where
      by : (b : Bool)
          → lookup_entry test (l ++ r) ≡ option_or (lookup_entry test l) (lookup_entry test r)
          → cond b (Some e) (lookup_entry test (l ++ r))
          ≡ option_or (cond b (Some e) (lookup_entry test l)) (lookup_entry test r)
      by true rest = refl
      by false rest = rest

  -- what is looked up is not among pairs whose keys fail the test
  pub lookup_entry-after : (l r : List (K × X)) → NoKey test l
      → lookup_entry test (l ++ r) ≡ lookup_entry test r
  lookup_entry-after [] r fails = refl
  lookup_entry-after (e ∷ l) r fails =
      ap (λ b. cond b (Some e) (lookup_entry test (l ++ r))) fails.0 ∙ lookup_entry-after l r fails.1

  -- the removal of a key that is not there changes nothing
  pub remove_entry-none : (es : List (K × X)) → NoKey test es → remove_entry test es ≡ es
  remove_entry-none [] fails = refl
  remove_entry-none (e ∷ es) fails =
      ap (λ b. cond b es (e ∷ remove_entry test es)) fails.0
      ∙ ap (λ rest. e ∷ rest) (remove_entry-none es fails.1)

  -- where it is not in the second list, a removal is one from the first
  pub remove_entry-before : (l r : List (K × X)) → NoKey test r
      → remove_entry test (l ++ r) ≡ remove_entry test l ++ r
  remove_entry-before [] r fails = remove_entry-none r fails
  remove_entry-before (e ∷ l) r fails = by (test e.0) (remove_entry-before l r fails)
    where
      by : (b : Bool) → remove_entry test (l ++ r) ≡ remove_entry test l ++ r
          → cond b (l ++ r) (e ∷ remove_entry test (l ++ r))
          ≡ cond b l (e ∷ remove_entry test l) ++ r
      by true rest = refl
      by false rest = ap (λ rest. e ∷ rest) rest

  -- where it is not in the first list, a removal is one from the second
  pub remove_entry-after : (l r : List (K × X)) → NoKey test l
      → remove_entry test (l ++ r) ≡ l ++ remove_entry test r
  remove_entry-after [] r fails = refl
  remove_entry-after (e ∷ l) r fails =
      ap (λ b. cond b (l ++ r) (e ∷ remove_entry test (l ++ r))) fails.0
      ∙ ap (λ rest. e ∷ rest) (remove_entry-after l r fails.1)

  -- of pairs whose keys all fail a test none is left
  pub filter-none : (es : List (K × X)) → NoKey test es → filter (λ e. test e.0) es ≡ []
  filter-none [] fails = refl
  filter-none (e ∷ es) fails =
      ap (λ b. cond b (e ∷ filter (λ e. test e.0) es) (filter (λ e. test e.0) es)) fails.0
      ∙ filter-none es fails.1

  -- and of those whose keys all pass it all are
  pub filter-each : (es : List (K × X)) → AllByRecursion (λ key. test key ≡ true) (keys_of es)
      → filter (λ e. test e.0) es ≡ es
  filter-each [] each = refl
  filter-each (e ∷ es) each =
      ap (λ b. cond b (e ∷ filter (λ e. test e.0) es) (filter (λ e. test e.0) es)) each.0
      ∙ ap (λ rest. e ∷ rest) (filter-each es each.1)

  -- what passes a test in two lists is what passes it in the one and then in the other
  pub filter-append : (l r : List (K × X))
      → filter (λ e. test e.0) (l ++ r) ≡ filter (λ e. test e.0) l ++ filter (λ e. test e.0) r
  filter-append [] r = refl
  filter-append (e ∷ l) r = by (test e.0) (filter-append l r)
    where
      by : (b : Bool)
          → filter (λ e. test e.0) (l ++ r) ≡ filter (λ e. test e.0) l ++ filter (λ e. test e.0) r
          → cond b (e ∷ filter (λ e. test e.0) (l ++ r)) (filter (λ e. test e.0) (l ++ r))
          ≡ cond b (e ∷ filter (λ e. test e.0) l) (filter (λ e. test e.0) l)
          ++ filter (λ e. test e.0) r
      by true rest = ap (λ rest. e ∷ rest) rest
      by false rest = rest

module _ {K X : Type 0} (cmp : K → K → Ordering) (key : K) (value : X) where
  -- the pair goes in before the first of greater key
  pub insert_entry-before : (l : List (K × X)) (x : K × X) (r : List (K × X))
      → cmp key x.0 ≡ Less
      → insert_entry cmp (l ++ x ∷ r) key value ≡ insert_entry cmp l key value ++ x ∷ r
  insert_entry-before [] x r less =
      ap (λ o. match_ordering o ((key, value) ∷ x ∷ r) ((x.0, value) ∷ r)
      (x ∷ insert_entry cmp r key value)) less
  insert_entry-before (e ∷ l) x r less =
      by (cmp key e.0) (insert_entry-before l x r less)
    where
      by : (o : Ordering)
          → insert_entry cmp (l ++ x ∷ r) key value ≡ insert_entry cmp l key value ++ x ∷ r
          → match_ordering o ((key, value) ∷ e ∷ (l ++ x ∷ r)) ((e.0, value) ∷ (l ++ x ∷ r))
          (e ∷ insert_entry cmp (l ++ x ∷ r) key value)
          ≡ match_ordering o ((key, value) ∷ e ∷ l) ((e.0, value) ∷ l)
          (e ∷ insert_entry cmp l key value) ++ x ∷ r
      by Less rest = refl
      by Equal rest = refl
      by Greater rest = ap (λ rest. e ∷ rest) rest

  -- and after those of lower key
  pub insert_entry-after : (l r : List (K × X))
      → AllByRecursion (λ other. cmp key other ≡ Greater) (keys_of l)
      → insert_entry cmp (l ++ r) key value ≡ l ++ insert_entry cmp r key value
  insert_entry-after [] r lower = refl
  insert_entry-after (e ∷ l) r lower =
      ap (λ o. match_ordering o ((key, value) ∷ e ∷ (l ++ r)) ((e.0, value) ∷ (l ++ r))
      (e ∷ insert_entry cmp (l ++ r) key value)) lower.0
      ∙ ap (λ rest. e ∷ rest) (insert_entry-after l r lower.1)

-- ---- a pair between two others at the top

-- the order stays where the pair in between comes to the top
pub regrouped : {A : Type 0} (l m h r : List A) (x y z : A)
    → (l ++ x ∷ m) ++ y ∷ (h ++ z ∷ r) ≡ l ++ x ∷ ((m ++ y ∷ h) ++ z ∷ r)
regrouped l m h r x y z =
    append_assoc l (x ∷ m) (y ∷ (h ++ z ∷ r))
    ∙ ap (λ rest. l ++ x ∷ rest) (sym (append_assoc m (y ∷ h) (z ∷ r)))
