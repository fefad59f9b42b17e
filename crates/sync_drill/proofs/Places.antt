-- Items by their places.
use Rattle.std.proofs.Common.{◌≡◌, ℕ, suc, ◌+◌, List, [], ◌∷◌, ◌++◌, length, subst, arith}
use Rattle.sync_drill.specs.Drilled.{EachAt}

-- one item more
pub each-push : {X : Type 0} (P : ℕ → X → Type 0) (place : ℕ) (xs : List X) (x : X) → EachAt P place xs → P (place + length xs) x
    → EachAt P place (xs ++ x ∷ [])
each-push P place [] x each one = let same : place + 0 ≡ place = omega arith in (subst (λ n. P n x) same one, tt)
each-push P place (y ∷ xs) x each one =
    let same : place + suc (length xs) ≡ suc place + length xs = omega arith in
    (each.0, each-push P (suc place) xs x each.1 (subst (λ n. P n x) same one))

-- the first of them, and those that come later
pub each-front : {X : Type 0} (P : ℕ → X → Type 0) (place : ℕ) (xs ys : List X) → EachAt P place (xs ++ ys) → EachAt P place xs
each-front P place [] ys each = tt
each-front P place (x ∷ xs) ys each = (each.0, each-front P (suc place) xs ys each.1)

-- and those that come later
pub each-back : {X : Type 0} (P : ℕ → X → Type 0) (place : ℕ) (xs ys : List X) → EachAt P place (xs ++ ys) → EachAt P (place + length xs) ys
each-back P place [] ys each = let same : place ≡ place + 0 = omega arith in subst (λ n. EachAt P n ys) same each
each-back P place (x ∷ xs) ys each =
    let same : suc place + length xs ≡ place + suc (length xs) = omega arith in
    subst (λ n. EachAt P n ys) same (each-back P (suc place) xs ys each.1)
