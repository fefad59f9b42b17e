-- Maps whose numbers ascend, after a change at one number.
use Rattle.std.proofs.Common.{◌≡◌, ◌≢◌, ◌<◌, ◌≤◌, ◌⊎◌, ℕ, suc, Bool, true, false, cond, List, [], ◌∷◌, map, Some, None, refl, ap, sym, subst, ◌∙◌, inl, inr, arith}
use Rattle.std.specs.BTreeMap.{insert_entry, is_at}
use Rattle.std.specs.Ordering.{nat_cmp, match_ordering}
use Rattle.std.proofs.lemmas.Bool.{cases_eq, cases_order}
use Rattle.directory_writes.proofs.Keyed.{kept_at, closed_at, put_on, less_cmp, same_cmp, more_cmp, is_at-same, is_at-other}
use Rattle.sync_provider.specs.Placing.{Ascends}
use Rattle.sync_provider.proofs.Tables.{weaker, none_below}

abbrev Order : ℕ → ℕ → Type 0
Order a b = (a ≡ b) ⊎ ((a < b) ⊎ (b < a))

-- numbers ascend with one more
pub ascends-opened : {X : Type 0} (es : List (ℕ × X)) (low k : ℕ) (x : X) → Ascends low es → low ≤ k → Ascends low (insert_entry nat_cmp es k x)
ascends-opened [] low k x h least = (least, tt)
ascends-opened (e ∷ es) low k x h least = by (ascends-opened es (suc e.0) k x h.1) (cases_order k e.0)
  where
    by : (suc e.0 ≤ k → Ascends (suc e.0) (insert_entry nat_cmp es k x)) → Order k e.0 → Ascends low (insert_entry nat_cmp (e ∷ es) k x)
    by rest (inl same) =
        subst (λ o. Ascends low (match_ordering o ((k, x) ∷ e ∷ es) ((e.0, x) ∷ es) (e ∷ insert_entry nat_cmp es k x))) (sym (same_cmp k e.0 same)) (h.0, h.1)
    by rest (inr (inl less)) =
        subst (λ o. Ascends low (match_ordering o ((k, x) ∷ e ∷ es) ((e.0, x) ∷ es) (e ∷ insert_entry nat_cmp es k x))) (sym (less_cmp k e.0 less)) (least, (omega (arith, less), h.1))
    by rest (inr (inr more)) =
        subst (λ o. Ascends low (match_ordering o ((k, x) ∷ e ∷ es) ((e.0, x) ∷ es) (e ∷ insert_entry nat_cmp es k x))) (sym (more_cmp k e.0 more)) (h.0, rest (omega (arith, more)))

-- and without one
pub ascends-closed : {X : Type 0} (es : List (ℕ × X)) (low k : ℕ) → Ascends low es → Ascends low (closed_at es k)
ascends-closed [] low k h = tt
ascends-closed (e ∷ es) low k h = by (ascends-closed es (suc e.0) k h.1) (is_at (nat_cmp k) e.0)
  where
    by : Ascends (suc e.0) (closed_at es k) → (b : Bool) → Ascends low (cond b es (e ∷ closed_at es k))
    by rest true = weaker es low (suc e.0) (omega (arith, h.0)) h.1
    by rest false = (h.0, rest)

-- and where another value stands at one
pub ascends-put_on : {X : Type 0} (es : List (ℕ × X)) (low k : ℕ) (x : X) → Ascends low es → Ascends low (put_on es k x)
ascends-put_on [] low k x h = tt
ascends-put_on (e ∷ es) low k x h = by (ascends-put_on es (suc e.0) k x h.1) (is_at (nat_cmp k) e.0)
  where
    by : Ascends (suc e.0) (put_on es k x) → (b : Bool) → Ascends low (cond b ((e.0, x) ∷ es) (e ∷ put_on es k x))
    by rest true = (h.0, h.1)
    by rest false = (h.0, rest)

-- and where other values stand at all
pub ascends-mapped : {X Y : Type 0} (f : X → Y) (es : List (ℕ × X)) (low : ℕ) → Ascends low es → Ascends low (map (λ e. (e.0, f e.1)) es)
ascends-mapped f [] low h = tt
ascends-mapped f (e ∷ es) low h = (h.0, ascends-mapped f es (suc e.0) h.1)

first_kept : {X : Type 0} (e : ℕ × X) (es : List (ℕ × X)) → kept_at (e ∷ es) e.0 ≡ Some e.1
first_kept e es = ap (λ b. cond b (Some e.1) (kept_at es e.0)) (is_at-same e.0 e.0 refl)

-- two of them that have the same at each number are the same
pub same_maps : {X : Type 0} (es fs : List (ℕ × X)) (low : ℕ) → Ascends low es → Ascends low fs → ((n : ℕ) → kept_at es n ≡ kept_at fs n) → es ≡ fs
same_maps [] [] low one other same = refl
same_maps [] (f ∷ fs) low one other same = absurd (far (same f.0 ∙ first_kept f fs))
  where
    far : None ≡ Some f.1 → ⊥
    far is = cc
same_maps (e ∷ es) [] low one other same = absurd (far (sym (same e.0) ∙ first_kept e es))
  where
    far : None ≡ Some e.1 → ⊥
    far is = cc
same_maps (e ∷ es) (f ∷ fs) low one other same = by (same_maps es fs (suc e.0) one.1) (cases_order e.0 f.0)
  where
    far_one : None ≡ Some e.1 → ⊥
    far_one is = cc

    far_other : None ≡ Some f.1 → ⊥
    far_other is = cc

    alike : Some e.1 ≡ Some f.1 → e.1 ≡ f.1
    alike is = cc

    later : e.0 ≡ f.0 → (n : ℕ) → (n ≡ e.0) ⊎ (n ≢ e.0) → kept_at es n ≡ kept_at fs n
    later at n (inl here) =
        none_below es (suc e.0) n one.1 (omega (arith, here)) ∙ sym (none_below fs (suc f.0) n other.1 (omega (arith, here, at)))
    later at n (inr far) =
        sym (ap (λ b. cond b (Some e.1) (kept_at es n)) (is_at-other n e.0 far))
        ∙ same n
        ∙ ap (λ b. cond b (Some f.1) (kept_at fs n)) (is_at-other n f.0 (λ is. far (is ∙ sym at)))

    by : (Ascends (suc e.0) fs → ((n : ℕ) → kept_at es n ≡ kept_at fs n) → es ≡ fs) → Order e.0 f.0 → e ∷ es ≡ f ∷ fs
    by rest (inl at) =
        let value : e.1 ≡ f.1 =
        alike (sym (first_kept e es) ∙ same e.0 ∙ ap (λ b. cond b (Some f.1) (kept_at fs e.0)) (is_at-same e.0 f.0 at)) in
        let more : es ≡ fs = rest (subst (λ n. Ascends (suc n) fs) (sym at) other.1) (λ n. later at n (cases_eq n e.0)) in
        λ i. (at i, value i) ∷ more i
    by rest (inr (inl less)) =
        let all : Ascends f.0 (f ∷ fs) = (omega arith, other.1) in
        absurd (far_one (sym (none_below (f ∷ fs) f.0 e.0 all less) ∙ sym (same e.0) ∙ first_kept e es))
    by rest (inr (inr more)) =
        let all : Ascends e.0 (e ∷ es) = (omega arith, one.1) in
        absurd (far_other (sym (none_below (e ∷ es) e.0 f.0 all more) ∙ same f.0 ∙ first_kept f fs))
