-- What is kept in a map at its keys, which are numbers.
use Rattle.std.proofs.Common.{◌≡◌, ◌≢◌, ◌<◌, ◌⊎◌, ℕ, Bool, true, false, cond, List, [], ◌∷◌, Option, Some, None, refl, ap, sym, ◌∙◌, inl, inr, arith}
use Rattle.std.specs.Prelude.{not, nat_eq, filter}
use Rattle.std.specs.Cmp.{nat_cmp_is}
use Rattle.std.specs.List.{AllByRecursion}
use Rattle.std.specs.List.Sorted.{IsStrictlySortedBy}
use Rattle.std.specs.Map.{keys_of, lookup, remove_entry, set_value}
use Rattle.std.specs.BTreeMap.{insert_entry, is_at}
use Rattle.std.specs.Ordering.{nat_cmp, is_eq, match_ordering}
use Rattle.std.specs.declared.cmp.Ordering.TheVariants.{Less, Equal, Greater}
use Rattle.std.proofs.lemmas.Bool.{cases_order, eq-eqb, eqb-false, eqb-true, ne_eqb, false≢true}
use Rattle.std.proofs.lemmas.Map.Keys.{sorted_head, sorted_tail}

abbrev Order : ℕ → ℕ → Type 0
Order a b = (a ≡ b) ⊎ ((a < b) ⊎ (b < a))

-- a smaller number is ordered before a greater one
pub less_cmp : (a b : ℕ) → a < b → nat_cmp a b ≡ Less
less_cmp a b h = sym (nat_cmp_is a b Less h)

-- equal numbers are ordered as equal
pub same_cmp : (a b : ℕ) → a ≡ b → nat_cmp a b ≡ Equal
same_cmp a b h = sym (nat_cmp_is a b Equal h)

-- a greater number compares as greater
pub more_cmp : (a b : ℕ) → b < a → nat_cmp a b ≡ Greater
more_cmp a b h = sym (nat_cmp_is a b Greater h)

-- a key is at an equal one
pub is_at-same : (a b : ℕ) → a ≡ b → is_at (nat_cmp a) b ≡ true
is_at-same a b h = ap is_eq (same_cmp a b h)

-- another number is at another key
pub is_at-other : (a b : ℕ) → a ≢ b → is_at (nat_cmp a) b ≡ false
is_at-other a b h = by (cases_order a b)
  where
    by : Order a b → is_at (nat_cmp a) b ≡ false
    by (inl same) = absurd (h same)
    by (inr (inl less)) = ap is_eq (less_cmp a b less)
    by (inr (inr more)) = ap is_eq (more_cmp a b more)

-- a key that is at another one equals it
pub at-is : (a b : ℕ) → is_at (nat_cmp a) b ≡ true → a ≡ b
at-is a b h = by (cases_order a b)
  where
    by : Order a b → a ≡ b
    by (inl same) = same
    by (inr (inl less)) = absurd (false≢true (sym (ap is_eq (less_cmp a b less)) ∙ h))
    by (inr (inr more)) = absurd (false≢true (sym (ap is_eq (more_cmp a b more)) ∙ h))

-- ---- what is kept at a key

-- what a map has of a key
abbrev pub kept_at : {X : Type 0} → List (ℕ × X) → ℕ → Option X
kept_at es k = lookup (is_at (nat_cmp k)) es

-- a map without a key
abbrev pub closed_at : {X : Type 0} → List (ℕ × X) → ℕ → List (ℕ × X)
closed_at es k = remove_entry (is_at (nat_cmp k)) es

-- ---- what is put in

-- a map has what was inserted of its key
pub opened-same : {X : Type 0} (es : List (ℕ × X)) (k : ℕ) (s : X) → kept_at (insert_entry nat_cmp es k s) k ≡ Some s
opened-same [] k s = ap (λ b. cond b (Some s) None) (is_at-same k k refl)
opened-same (e ∷ es) k s = by (opened-same es k s) (cases_order k e.0)
  where
    by : kept_at (insert_entry nat_cmp es k s) k ≡ Some s → Order k e.0 → kept_at (insert_entry nat_cmp (e ∷ es) k s) k ≡ Some s
    by rest (inl same) =
        ap (λ o. kept_at (match_ordering o ((k, s) ∷ e ∷ es) ((e.0, s) ∷ es) (e ∷ insert_entry nat_cmp es k s)) k) (same_cmp k e.0 same)
        ∙ ap (λ b. cond b (Some s) (kept_at es k)) (is_at-same k e.0 same)
    by rest (inr (inl less)) =
        ap (λ o. kept_at (match_ordering o ((k, s) ∷ e ∷ es) ((e.0, s) ∷ es) (e ∷ insert_entry nat_cmp es k s)) k) (less_cmp k e.0 less)
        ∙ ap (λ b. cond b (Some s) (kept_at (e ∷ es) k)) (is_at-same k k refl)
    by rest (inr (inr more)) =
        ap (λ o. kept_at (match_ordering o ((k, s) ∷ e ∷ es) ((e.0, s) ∷ es) (e ∷ insert_entry nat_cmp es k s)) k) (more_cmp k e.0 more)
        ∙ ap (λ b. cond b (Some e.1) (kept_at (insert_entry nat_cmp es k s) k)) (is_at-other k e.0 (λ same. omega arith))
        ∙ rest

-- an insertion leaves what a map has of other keys
pub opened-other : {X : Type 0} (es : List (ℕ × X)) (k q : ℕ) (s : X) → q ≢ k → kept_at (insert_entry nat_cmp es k s) q ≡ kept_at es q
opened-other [] k q s far = ap (λ b. cond b (Some s) None) (is_at-other q k far)
opened-other (e ∷ es) k q s far = by (opened-other es k q s far) (cases_order k e.0)
  where
    by : kept_at (insert_entry nat_cmp es k s) q ≡ kept_at es q → Order k e.0 → kept_at (insert_entry nat_cmp (e ∷ es) k s) q ≡ kept_at (e ∷ es) q
    by rest (inl same) =
        let apart : is_at (nat_cmp q) e.0 ≡ false = is_at-other q e.0 (λ is. far (is ∙ sym same)) in
        ap (λ o. kept_at (match_ordering o ((k, s) ∷ e ∷ es) ((e.0, s) ∷ es) (e ∷ insert_entry nat_cmp es k s)) q) (same_cmp k e.0 same)
        ∙ ap (λ b. cond b (Some s) (kept_at es q)) apart
        ∙ sym (ap (λ b. cond b (Some e.1) (kept_at es q)) apart)
    by rest (inr (inl less)) =
        ap (λ o. kept_at (match_ordering o ((k, s) ∷ e ∷ es) ((e.0, s) ∷ es) (e ∷ insert_entry nat_cmp es k s)) q) (less_cmp k e.0 less)
        ∙ ap (λ b. cond b (Some s) (kept_at (e ∷ es) q)) (is_at-other q k far)
    by rest (inr (inr more)) =
        ap (λ o. kept_at (match_ordering o ((k, s) ∷ e ∷ es) ((e.0, s) ∷ es) (e ∷ insert_entry nat_cmp es k s)) q) (more_cmp k e.0 more)
        ∙ ap (cond (is_at (nat_cmp q) e.0) (Some e.1)) rest

-- ---- what is taken out, or renewed

-- a removal leaves what a map has of other keys
pub closed-other : {X : Type 0} (es : List (ℕ × X)) (k q : ℕ) → q ≢ k → kept_at (closed_at es k) q ≡ kept_at es q
closed-other [] k q far = refl
closed-other (e ∷ es) k q far = by (closed-other es k q far) (is_at (nat_cmp k) e.0) refl
  where
    by : kept_at (closed_at es k) q ≡ kept_at es q → (b : Bool) → is_at (nat_cmp k) e.0 ≡ b → kept_at (cond b es (e ∷ closed_at es k)) q ≡ kept_at (e ∷ es) q
    by rest true hit = sym (ap (λ b. cond b (Some e.1) (kept_at es q)) (is_at-other q e.0 (λ is. far (is ∙ sym (at-is k e.0 hit)))))
    by rest false miss = ap (cond (is_at (nat_cmp q) e.0) (Some e.1)) rest

-- a map without the pairs of a key
abbrev pub dropped_at : {X : Type 0} → List (ℕ × X) → ℕ → List (ℕ × X)
dropped_at es k = filter (λ e. not (nat_eq e.0 k)) es

-- it has nothing of the key
pub dropped-same : {X : Type 0} (es : List (ℕ × X)) (k : ℕ) → kept_at (dropped_at es k) k ≡ None
dropped-same [] k = refl
dropped-same (e ∷ es) k = by (dropped-same es k) (nat_eq e.0 k) refl
  where
    by : kept_at (dropped_at es k) k ≡ None → (b : Bool) → nat_eq e.0 k ≡ b → kept_at (cond (not b) (e ∷ dropped_at es k) (dropped_at es k)) k ≡ None
    by rest true hit = rest
    by rest false miss = ap (λ b. cond b (Some e.1) (kept_at (dropped_at es k) k)) (is_at-other k e.0 (λ same. eqb-false e.0 k miss (sym same))) ∙ rest

-- and the same of other keys
pub dropped-other : {X : Type 0} (es : List (ℕ × X)) (k q : ℕ) → q ≢ k → kept_at (dropped_at es k) q ≡ kept_at es q
dropped-other [] k q far = refl
dropped-other (e ∷ es) k q far = by (dropped-other es k q far) (nat_eq e.0 k) refl
  where
    by : kept_at (dropped_at es k) q ≡ kept_at es q → (b : Bool) → nat_eq e.0 k ≡ b → kept_at (cond (not b) (e ∷ dropped_at es k) (dropped_at es k)) q ≡ kept_at (e ∷ es) q
    by rest true hit = rest ∙ sym (ap (λ b. cond b (Some e.1) (kept_at es q)) (is_at-other q e.0 (λ same. far (same ∙ eqb-true e.0 k hit))))
    by rest false miss = ap (cond (is_at (nat_cmp q) e.0) (Some e.1)) rest

none_dropped : {X : Type 0} (first : ℕ) (es : List (ℕ × X)) (k : ℕ) → first ≡ k → AllByRecursion (λ s. nat_cmp first s ≡ Less) (keys_of es) → dropped_at es k ≡ es
none_dropped first [] k same above = refl
none_dropped first (e ∷ es) k same above =
    ap (λ b. cond (not b) (e ∷ dropped_at es k) (dropped_at es k)) (ne_eqb e.0 k apart) ∙ ap (λ xs. e ∷ xs) (none_dropped first es k same above.1)
  where
    apart : e.0 ≡ k → ⊥
    apart here = let equal : Less ≡ Equal = sym above.0 ∙ same_cmp first e.0 (same ∙ sym here) in absurd (cc)

-- where keys ascend, a key that is taken out leaves no pair of it
pub closed-dropped : {X : Type 0} (es : List (ℕ × X)) (k : ℕ) → IsStrictlySortedBy nat_cmp (keys_of es) → closed_at es k ≡ dropped_at es k
closed-dropped [] k sorted = refl
closed-dropped (e ∷ es) k sorted = by (closed-dropped es k (sorted_tail nat_cmp e.0 (keys_of es) sorted)) (is_at (nat_cmp k) e.0) refl
  where
    by : closed_at es k ≡ dropped_at es k → (b : Bool) → is_at (nat_cmp k) e.0 ≡ b → cond b es (e ∷ closed_at es k) ≡ dropped_at (e ∷ es) k
    by rest true hit =
        let here : e.0 ≡ k = sym (at-is k e.0 hit) in
        sym (none_dropped e.0 es k here (sorted_head nat_cmp e.0 (keys_of es) sorted)) ∙ sym (ap (λ b. cond (not b) (e ∷ dropped_at es k) (dropped_at es k)) (eq-eqb e.0 k here))
    by rest false miss =
        ap (λ xs. e ∷ xs) rest
        ∙ sym (ap (λ b. cond (not b) (e ∷ dropped_at es k) (dropped_at es k)) (ne_eqb e.0 k (λ same. false≢true (sym miss ∙ is_at-same k e.0 (sym same)))))

-- a map with another value of a key that it has
abbrev pub put_on : {X : Type 0} → List (ℕ × X) → ℕ → X → List (ℕ × X)
put_on es k s = set_value (is_at (nat_cmp k)) es s

-- another value of a key leaves those of other keys
pub put_on-other : {X : Type 0} (es : List (ℕ × X)) (k q : ℕ) (s : X) → q ≢ k → kept_at (put_on es k s) q ≡ kept_at es q
put_on-other [] k q s far = refl
put_on-other (e ∷ es) k q s far = by (put_on-other es k q s far) (is_at (nat_cmp k) e.0) refl
  where
    by : kept_at (put_on es k s) q ≡ kept_at es q → (b : Bool) → is_at (nat_cmp k) e.0 ≡ b → kept_at (cond b ((e.0, s) ∷ es) (e ∷ put_on es k s)) q ≡ kept_at (e ∷ es) q
    by rest true hit =
        let apart : is_at (nat_cmp q) e.0 ≡ false = is_at-other q e.0 (λ is. far (is ∙ sym (at-is k e.0 hit))) in
        ap (λ b. cond b (Some s) (kept_at es q)) apart ∙ sym (ap (λ b. cond b (Some e.1) (kept_at es q)) apart)
    by rest false miss = ap (cond (is_at (nat_cmp q) e.0) (Some e.1)) rest

-- a map has the value that was put in place of that of its key
pub put_on-same : {X : Type 0} (es : List (ℕ × X)) (k : ℕ) (s was : X) → kept_at es k ≡ Some was → kept_at (put_on es k s) k ≡ Some s
put_on-same [] k s was found = absurd (far found)
  where
    far : None ≡ Some was → ⊥
    far e = cc
put_on-same (e ∷ es) k s was found = by (put_on-same es k s was) (is_at (nat_cmp k) e.0) refl
  where
    by : (kept_at es k ≡ Some was → kept_at (put_on es k s) k ≡ Some s) → (b : Bool) → is_at (nat_cmp k) e.0 ≡ b
        → kept_at (cond b ((e.0, s) ∷ es) (e ∷ put_on es k s)) k ≡ Some s
    by rest true hit = ap (λ b. cond b (Some s) (kept_at es k)) hit
    by rest false miss =
        ap (λ b. cond b (Some e.1) (kept_at (put_on es k s) k)) miss
        ∙ rest (sym (ap (λ b. cond b (Some e.1) (kept_at es k)) miss) ∙ found)
