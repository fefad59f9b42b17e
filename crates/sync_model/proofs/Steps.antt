-- What differs over some writes, and what stays.
use Rattle.std.proofs.Common.{◌≡◌, ℕ, zero, suc, ◌+◌, ◌-◌, ◌≤◌, Bool, true, false, cond, List, [], ◌∷◌, map, refl, sym, ap, ◌∙◌, arith, Some, None, Option, inl, inr, subst}
use Rattle.std.specs.Prelude.{not, ◌||◌, ◌&&◌, filter, is_some}
use Rattle.std.proofs.lemmas.Bool.{cases_lt, not-false, or_parts}
use Rattle.std.proofs.Math.Bool.{or-false, or_assoc}
use Rattle.entry_tree.specs.declared.entry.Entry.{Entry}
use Rattle.entry_tree.specs.Bytes.{is_one_found}
use Rattle.entry_tree.specs.State.{entry_at}
use Rattle.entry_tree.specs.Touched.{identities, joined, change_at, is_change, touched}
use Rattle.entry_tree.specs.History.{differing_over}
use Rattle.sync_model.specs.Stream.{among}
use Rattle.sync_model.proofs.Maps.{among-joined, among-filter}
use Rattle.entry_tree.proofs.Same.{one_found-true}
use Rattle.entry_tree.proofs.Taking.{among_identities}

-- the identities that differ between two states
abbrev pub differing : List Entry → List Entry → List ℕ
differing old new = map (λ entry_change. entry_change.uuid) (touched old new)

-- whether two lists of entries have another entry of an identity
abbrev pub differs : List Entry → List Entry → ℕ → Bool
differs old new u = not (is_one_found (entry_at old u) (entry_at new u))

uuids_touched : (old new : List Entry) (xs : List ℕ) → map (λ entry_change. entry_change.uuid) (filter is_change (map (change_at old new) xs)) ≡ filter (differs old new) xs
uuids_touched old new [] = refl
uuids_touched old new (x ∷ xs) = step (differs old new x) (uuids_touched old new xs) where
  step : (b : Bool) → map (λ entry_change. entry_change.uuid) (filter is_change (map (change_at old new) xs)) ≡ filter (differs old new) xs
      → map (λ entry_change. entry_change.uuid) (cond b (change_at old new x ∷ filter is_change (map (change_at old new) xs)) (filter is_change (map (change_at old new) xs)))
      ≡ cond b (x ∷ filter (differs old new) xs) (filter (differs old new) xs)
  step true ih = ap (λ us. x ∷ us) ih
  step false ih = ih

-- they are those of both states that differ
pub differing-filter : (old new : List Entry) → differing old new ≡ filter (differs old new) (joined (identities old) (identities new))
differing-filter old new = uuids_touched old new (joined (identities old) (identities new))

-- entries of one identity differ only where there is one
pub found_there : (x y : Option Entry) → ((is_some x || is_some y) && not (is_one_found x y)) ≡ not (is_one_found x y)
found_there None None = refl
found_there None (Some b) = refl
found_there (Some a) None = refl
found_there (Some a) (Some b) = refl

-- an identity is among those that differ exactly where its entries differ
pub among-differing : (old new : List Entry) (u : ℕ) → among u (differing old new) ≡ differs old new u
among-differing old new u =
    ap (among u) (differing-filter old new)
    ∙ among-filter (differs old new) (joined (identities old) (identities new)) u
    ∙ ap (λ b. b && differs old new u)
    (among-joined (identities new) (identities old) u ∙ ap (λ b. b || among u (identities new)) (among_identities old u) ∙ ap (λ b. is_some (entry_at old u) || b) (among_identities new u))
    ∙ found_there (entry_at old u) (entry_at new u)

-- what does not differ is the same
pub same_outside : (old new : List Entry) (u : ℕ) → among u (differing old new) ≡ false → entry_at old u ≡ entry_at new u
same_outside old new u h = one_found-true _ _ (not-false _ (sym (among-differing old new u) ∙ h))

-- no identity differs over no steps
pub over_none : (states : ℕ → List Entry) (from : ℕ) → differing_over states from 0 ≡ []
unfolding differing_over
over_none states from = refl

-- what differs over one more step differs over those before it or in it
pub over_more : (states : ℕ → List Entry) (from steps : ℕ) → differing_over states from (suc steps) ≡ joined (differing_over states from steps) (differing (states (from + steps)) (states (from + steps + 1)))
unfolding differing_over
over_more states from steps = refl

-- an identity differs over one more step where it does over those before it or in it
pub among-over_more : (states : ℕ → List Entry) (from steps u : ℕ)
    → among u (differing_over states from (suc steps)) ≡ (among u (differing_over states from steps) || among u (differing (states (from + steps)) (states (from + steps + 1))))
among-over_more states from steps u =
    ap (among u) (over_more states from steps) ∙ among-joined (differing (states (from + steps)) (states (from + steps + 1))) (differing_over states from steps) u

-- an identity that is not among those that differ over some steps has the same at each of them
pub steady : (steps : ℕ) (states : ℕ → List Entry) (from j u : ℕ) → j ≤ steps → among u (differing_over states from steps) ≡ false → entry_at (states (from + j)) u ≡ entry_at (states from) u
steady zero states from j u le h = let e : from + j ≡ from = omega arith in ap (λ n. entry_at (states n) u) e
steady (suc steps) states from j u le h =
    let p : (among u (differing_over states from steps) ≡ false) × (among u (differing (states (from + steps)) (states (from + steps + 1))) ≡ false) =
    or_parts _ _ (sym (among-over_more states from steps u) ∙ h)
    in
    elim (cases_lt j (suc steps)) [
      | inl less ↦ steady steps states from j u (omega arith) p.0
      | inr most ↦ (let e : from + j ≡ from + steps + 1 = omega arith in
          ap (λ n. entry_at (states n) u) e
          ∙ sym (same_outside (states (from + steps)) (states (from + steps + 1)) u p.1)
          ∙ steady steps states from steps u (omega arith) p.0)
    ]

-- the same by the bounds of the interval
pub steady_within : (states : ℕ → List Entry) (a b n u : ℕ) → a ≤ n → n ≤ b → among u (differing_over states a (b - a)) ≡ false → entry_at (states n) u ≡ entry_at (states a) u
steady_within states a b n u least most h =
    let e : a + (n - a) ≡ n = omega arith in
    subst (λ x. entry_at (states x) u ≡ entry_at (states a) u) e (steady (b - a) states a (n - a) u (omega arith) h)

-- what differs over some steps differs over the first of them or over those that follow
pub over_split : (k : ℕ) (states : ℕ → List Entry) (a j u : ℕ) → among u (differing_over states a (j + k)) ≡ (among u (differing_over states a j) || among u (differing_over states (a + j) k))
over_split zero states a j u =
    let z : j + 0 ≡ j = omega arith in
    ap (λ n. among u (differing_over states a n)) z ∙ sym (or-false (among u (differing_over states a j)))
    ∙ ap (λ us. among u (differing_over states a j) || among u us) (sym (over_none states (a + j)))
over_split (suc k) states a j u =
    let z : j + suc k ≡ suc (j + k) = omega arith in
    let y : a + (j + k) ≡ a + j + k = omega arith in
    ap (λ n. among u (differing_over states a n)) z
    ∙ among-over_more states a (j + k) u
    ∙ ap (λ m. among u (differing_over states a (j + k)) || among u (differing (states m) (states (m + 1)))) y
    ∙ ap (λ b. b || among u (differing (states (a + j + k)) (states (a + j + k + 1)))) (over_split k states a j u)
    ∙ or_assoc (among u (differing_over states a j)) (among u (differing_over states (a + j) k)) (among u (differing (states (a + j + k)) (states (a + j + k + 1))))
    ∙ ap (λ b. among u (differing_over states a j) || b) (sym (among-over_more states (a + j) k u))
