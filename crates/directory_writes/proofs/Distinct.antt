-- Things that are kept by numbers of their own.
use Rattle.std.proofs.Common.{◌≡◌, ◌≢◌, ◌<◌, ◌⊎◌, ℕ, Bool, true, false, cond, List, [], ◌∷◌, map, Option, Some, None, refl, ap, sym, ◌∙◌, inl, inr, subst}
use Rattle.std.specs.Prelude.{⊤}
use Rattle.std.specs.BTreeMap.{insert_entry, is_at}
use Rattle.std.specs.Ordering.{nat_cmp, match_ordering}
use Rattle.std.proofs.lemmas.Bool.{cases_order, false≢true}
use Rattle.directory_writes.proofs.Keyed.{less_cmp, more_cmp, is_at-same, at-is, kept_at, closed_at, opened-other, closed-other, put_on, put_on-other}

-- no two of these have one number
abbrev pub AreDistinct : {X : Type 0} → List (ℕ × X) → Type 0
AreDistinct [] = ⊤
AreDistinct (e ∷ es) = (kept_at es e.0 ≡ None) × AreDistinct es

-- one that is put in has a number that no other has
pub distinct-opened : {X : Type 0} (es : List (ℕ × X)) (k : ℕ) (s : X) → kept_at es k ≡ None → AreDistinct es → AreDistinct (insert_entry nat_cmp es k s)
distinct-opened [] k s free apart = (refl, tt)
distinct-opened (e ∷ es) k s free apart = by (λ none. distinct-opened es k s none apart.1) (is_at (nat_cmp k) e.0) refl free
  where
    other : k ≢ e.0 → AreDistinct (insert_entry nat_cmp es k s) → kept_at (e ∷ es) k ≡ None → AreDistinct (insert_entry nat_cmp (e ∷ es) k s)
    other far rest none = order (cases_order k e.0)
      where
        order : (k ≡ e.0) ⊎ ((k < e.0) ⊎ (e.0 < k)) → AreDistinct (insert_entry nat_cmp (e ∷ es) k s)
        order (inl same) = absurd (far same)
        order (inr (inl less)) =
            subst (λ o. AreDistinct (match_ordering o ((k, s) ∷ e ∷ es) ((e.0, s) ∷ es) (e ∷ insert_entry nat_cmp es k s))) (sym (less_cmp k e.0 less)) (none, apart)
        order (inr (inr more)) =
            subst (λ o. AreDistinct (match_ordering o ((k, s) ∷ e ∷ es) ((e.0, s) ∷ es) (e ∷ insert_entry nat_cmp es k s))) (sym (more_cmp k e.0 more))
            (opened-other es k e.0 s (λ same. far (sym same)) ∙ apart.0, rest)

    by : (kept_at es k ≡ None → AreDistinct (insert_entry nat_cmp es k s)) → (b : Bool) → is_at (nat_cmp k) e.0 ≡ b → cond b (Some e.1) (kept_at es k) ≡ None → AreDistinct (insert_entry nat_cmp (e ∷ es) k s)
    by rest true hit none = let never : ⊥ = cc in absurd never
    by rest false miss none =
        other (λ same. false≢true (sym miss ∙ is_at-same k e.0 same)) (rest none) (ap (λ b. cond b (Some e.1) (kept_at es k)) miss ∙ none)

-- they have numbers of their own without one of them
pub distinct-closed : {X : Type 0} (es : List (ℕ × X)) (k : ℕ) → AreDistinct es → AreDistinct (closed_at es k)
distinct-closed [] k apart = tt
distinct-closed (e ∷ es) k apart = by (distinct-closed es k apart.1) (is_at (nat_cmp k) e.0) refl
  where
    by : AreDistinct (closed_at es k) → (b : Bool) → is_at (nat_cmp k) e.0 ≡ b → AreDistinct (cond b es (e ∷ closed_at es k))
    by rest true hit = apart.1
    by rest false miss = (closed-other es k e.0 (λ same. false≢true (sym miss ∙ is_at-same k e.0 (sym same))) ∙ apart.0, rest)

-- and none is at the number of one that was taken out
pub closed-same : {X : Type 0} (es : List (ℕ × X)) (k : ℕ) → AreDistinct es → kept_at (closed_at es k) k ≡ None
closed-same [] k apart = refl
closed-same (e ∷ es) k apart = by (closed-same es k apart.1) (is_at (nat_cmp k) e.0) refl
  where
    by : kept_at (closed_at es k) k ≡ None → (b : Bool) → is_at (nat_cmp k) e.0 ≡ b → kept_at (cond b es (e ∷ closed_at es k)) k ≡ None
    by rest true hit = ap (kept_at es) (at-is k e.0 hit) ∙ apart.0
    by rest false miss = ap (λ b. cond b (Some e.1) (kept_at (closed_at es k) k)) miss ∙ rest

-- and where one of them is replaced
pub distinct-put_on : {X : Type 0} (es : List (ℕ × X)) (k : ℕ) (s : X) → AreDistinct es → AreDistinct (put_on es k s)
distinct-put_on [] k s apart = tt
distinct-put_on (e ∷ es) k s apart = by (distinct-put_on es k s apart.1) (is_at (nat_cmp k) e.0) refl
  where
    by : AreDistinct (put_on es k s) → (b : Bool) → is_at (nat_cmp k) e.0 ≡ b → AreDistinct (cond b ((e.0, s) ∷ es) (e ∷ put_on es k s))
    by rest true hit = apart
    by rest false miss = (put_on-other es k e.0 s (λ same. false≢true (sym miss ∙ is_at-same k e.0 (sym same))) ∙ apart.0, rest)

-- ---- each is changed

abbrev pub each_changed : {X : Type 0} → (X → X) → List (ℕ × X) → List (ℕ × X)
each_changed change es = map (λ e. (e.0, change e.1)) es

abbrev changed_found : {X : Type 0} → (X → X) → Option X → Option X
changed_found change None = None
changed_found change (Some x) = Some (change x)

kept-changed : {X : Type 0} (change : X → X) (es : List (ℕ × X)) (k : ℕ) → kept_at (each_changed change es) k ≡ changed_found change (kept_at es k)
kept-changed change [] k = refl
kept-changed change (e ∷ es) k = by (kept-changed change es k) (is_at (nat_cmp k) e.0)
  where
    by : kept_at (each_changed change es) k ≡ changed_found change (kept_at es k) → (b : Bool)
        → cond b (Some (change e.1)) (kept_at (each_changed change es) k) ≡ changed_found change (cond b (Some e.1) (kept_at es k))
    by rest true = refl
    by rest false = rest

-- what is at a number after all were changed was there before
pub changed-was : {X : Type 0} (change : X → X) (es : List (ℕ × X)) (k : ℕ) (y : X) → kept_at (each_changed change es) k ≡ Some y → (x : X) × (kept_at es k ≡ Some x)
changed-was {X = X} change es k y found = by (kept_at es k) refl (sym (kept-changed change es k) ∙ found)
  where
    by : (was : Option X) → kept_at es k ≡ was → changed_found change was ≡ Some y → (x : X) × (kept_at es k ≡ Some x)
    by None is none = let never : ⊥ = cc in absurd never
    by (Some x) is some = (x, is)

-- where all are changed they have numbers of their own as before
pub distinct-changed : {X : Type 0} (change : X → X) (es : List (ℕ × X)) → AreDistinct es → AreDistinct (each_changed change es)
distinct-changed change [] apart = tt
distinct-changed change (e ∷ es) apart = (kept-changed change es e.0 ∙ ap (changed_found change) apart.0, distinct-changed change es apart.1)
