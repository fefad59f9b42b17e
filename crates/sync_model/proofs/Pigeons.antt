-- Numbers that are all among some places are no more than these.
use Rattle.std.proofs.Common.{◌≡◌, ◌≢◌, ℕ, zero, suc, ◌+◌, ◌<◌, ◌≤◌, Bool, true, false, cond, nat_eq, eqb-true, List, [], ◌∷◌, length, refl, ap, sym, ◌∙◌, arith}
use Rattle.std.specs.Prelude.{◌||◌}
use Rattle.std.proofs.lemmas.Bool.{or_right}
use Rattle.sync_model.specs.Stream.{among}

-- ---- n numbers need n places

abbrev without : ℕ → List ℕ → List ℕ
without u [] = []
without u (x ∷ xs) = cond (nat_eq u x) (without u xs) (x ∷ without u xs)

without-short : (u : ℕ) (xs : List ℕ) → length (without u xs) ≤ length xs
without-short u [] = omega arith
without-short u (x ∷ xs) = by (without-short u xs) (nat_eq u x)
  where
    by : length (without u xs) ≤ length xs → (b : Bool) → length (cond b (without u xs) (x ∷ without u xs)) ≤ length (x ∷ xs)
    by rest true = omega (arith, rest)
    by rest false = omega (arith, rest)

without-shorter : (u : ℕ) (xs : List ℕ) → among u xs ≡ true → length (without u xs) < length xs
without-shorter u [] there = let never : ⊥ = cc in absurd never
without-shorter u (x ∷ xs) there = by (without-short u xs) (without-shorter u xs) (nat_eq u x) there
  where
    by : length (without u xs) ≤ length xs → (among u xs ≡ true → length (without u xs) < length xs) → (b : Bool) → (b || among u xs) ≡ true → length (cond b (without u xs) (x ∷ without u xs)) < length (x ∷ xs)
    by short rest true there = omega (arith, short)
    by short rest false there = omega (arith, rest there)

without-other : (u v : ℕ) (xs : List ℕ) → v ≢ u → among v xs ≡ true → among v (without u xs) ≡ true
without-other u v [] far there = there
without-other u v (x ∷ xs) far there = by (without-other u v xs far) (nat_eq u x) refl (nat_eq v x) refl there
  where
    by : (among v xs ≡ true → among v (without u xs) ≡ true) → (b : Bool) → nat_eq u x ≡ b → (c : Bool) → nat_eq v x ≡ c → (c || among v xs) ≡ true → among v (cond b (without u xs) (x ∷ without u xs)) ≡ true
    by rest true hit true same there = absurd (far (eqb-true v x same ∙ sym (eqb-true u x hit)))
    by rest true hit false other there = rest there
    by rest false miss true same there = ap (λ b. b || among v (without u xs)) same
    by rest false miss false other there = or_right (nat_eq v x) (among v (without u xs)) (rest there)

-- numbers in a row that are all among these are no more than these
pub pigeons : (count first : ℕ) (places : List ℕ) → ((k : ℕ) → k < count → among (first + k) places ≡ true) → count ≤ length places
pigeons zero first places each = omega arith
pigeons (suc count) first places each =
    let same : first + 0 ≡ first = omega arith in
    let here : among first places ≡ true = ap (λ n. among n places) (sym same) ∙ each 0 (omega arith) in
    let rest = pigeons count (first + 1) (without first places)
    (λ k low.
    let next : first + suc k ≡ first + 1 + k = omega arith in
    without-other first (first + 1 + k) places (λ is. let never : ⊥ = omega (arith, is) in never) (ap (λ n. among n places) (sym next) ∙ each (suc k) (omega (arith, low)))) in
    omega (arith, rest, without-shorter first places here)
