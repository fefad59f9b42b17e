-- The numbers of passes.
use Rattle.std.proofs.Common.{◌≡◌, ◌≢◌, ℕ, zero, suc, ◌+◌, ◌<◌, ◌≤◌, ◌==◌, if◌then◌else◌, List, [], ◌∷◌, ◌++◌, map, take, drop, length, sym, refl, ap, ◌∙◌, subst, ⊎_elim, arith}
use Rattle.std.proofs.lemmas.Bool.Decides.{nat_tests}
use Rattle.std.proofs.lemmas.Bool.{cases_eq}
use Rattle.turn_cell.specs.declared.table.PassView.{PassView}
use Rattle.turn_cell.specs.Journals.{Every}
use Rattle.turn_cell.specs.Rule.{times, new_pass, new_passes, IsOneOf}

module _ {N X : Type 0} where
  -- how often a number stands among passes and others
  pub times-append : (number : ℕ) (xs ys : List (PassView N X))
      → times number (xs ++ ys) ≡ times number xs + times number ys
  times-append number [] ys = omega arith
  times-append number (x ∷ xs) ys =
      let rest = times-append number xs ys in
      let here : ℕ = if number == x.number then 1 else 0 in
      let sum : here + times number (xs ++ ys) ≡ (here + times number xs) + times number ys = omega arith in
      sum

  -- how often it stands in the first one and in the others
  pub times-split : (number : ℕ) (passes : List (PassView N X))
      → times number (take 1 passes) + times number (drop 1 passes) ≡ times number passes
  times-split number [] = omega arith
  times-split number (x ∷ xs) =
      let here : ℕ = if number == x.number then 1 else 0 in
      let sum : (here + 0) + times number xs ≡ here + times number xs = omega arith in
      sum

  -- how many they are together
  pub length-split : (passes : List (PassView N X))
      → length (take 1 passes) + length (drop 1 passes) ≡ length passes
  length-split [] = omega arith
  length-split (x ∷ xs) = let sum : suc zero + length xs ≡ suc (length xs) = omega arith in sum

  -- passes that keep their numbers have them as often
  pub times-map : (number : ℕ) (f : PassView N X → PassView N X)
      → ((pass : PassView N X) → (f pass).number ≡ pass.number)
      → (passes : List (PassView N X)) → times number (map f passes) ≡ times number passes
  times-map number f same [] = refl
  times-map number f same (x ∷ xs) =
      rw (same x) (ap (λ n. (if number == x.number then 1 else 0) + n) (times-map number f same xs))

  -- a pass of this number is one more
  pub times-here : (number : ℕ) (x : PassView N X) (xs : List (PassView N X)) → number ≡ x.number
      → times number (x ∷ xs) ≡ suc (times number xs)
  times-here number x xs is =
      let here : ℕ = if number == x.number then 1 else 0 in
      let one : here ≡ 1 = grind (arith, nat_tests) in
      let sum : here + times number xs ≡ suc (times number xs) = omega arith in
      sum

  -- one of another number is none
  pub times-other : (number : ℕ) (x : PassView N X) (xs : List (PassView N X)) → number ≢ x.number
      → times number (x ∷ xs) ≡ times number xs
  times-other number x xs other =
      let here : ℕ = if number == x.number then 1 else 0 in
      let none : here ≡ 0 = grind (arith, nat_tests) in
      let sum : here + times number xs ≡ times number xs = omega arith in
      sum

  -- what holds of the number of each pass holds of a number that one of them has
  pub held_by_one : (P : ℕ → Type 0) (number : ℕ) (passes : List (PassView N X))
      → 0 < times number passes → Every (λ pass. P pass.number) passes → P number
  held_by_one P number [] some all = absurd (omega arith)
  held_by_one P number (x ∷ xs) some all =
      ⊎_elim
      (λ (is : number ≡ x.number). subst P (sym is) all.0)
      (λ (other : number ≡ x.number → ⊥).
      let fewer = times-other number x xs other in
      held_by_one P number xs (let there : 0 < times number (x ∷ xs) = some in omega (arith, fewer, there)) all.1)
      (cases_eq number x.number)

  -- where no pass has the number, each has another one
  pub every-other : (number : ℕ) (passes : List (PassView N X)) → times number passes ≡ 0
      → Every (λ pass. pass.number ≢ number) passes
  every-other number [] none = tt
  every-other number (x ∷ xs) none = (
    (λ is. let here = times-here number x xs (sym is) in
        let zero_more : suc (times number xs) ≡ 0 = sym here ∙ none in absurd (omega (arith, zero_more))),
    every-other number xs
        (let here : ℕ = if number == x.number then 1 else 0 in
        let sum : here + times number xs ≡ 0 = none in omega (arith, sum)),
  )

-- ---- passes that are new

module _ {N X : Type 0} (seats : ℕ) (journal : List (N × ℕ)) (share : ℕ → List X) where
  abbrev new : ℕ → PassView N X
  new = new_pass seats journal share

  abbrev from : ℕ → ℕ → List (PassView N X)
  from = new_passes seats journal share

  new_passes-above : (number first n : ℕ) → number < first → times number (from first n) ≡ 0
  new_passes-above number first zero low = refl
  new_passes-above number first (suc n) low =
      times-other number (new first) (from (suc first) n) (omega arith)
      ∙ new_passes-above number (suc first) n (omega arith)

  -- each number is given once
  pub new_passes-once : (number first n : ℕ) → times number (from first n) ≤ 1
  new_passes-once number first zero = omega arith
  new_passes-once number first (suc n) =
      ⊎_elim
      (λ (is : number ≡ first).
      let here = times-here number (new first) (from (suc first) n) is in
      let none = new_passes-above number (suc first) n (omega arith) in
      let once : times number (from first (suc n)) ≤ 1 = rw (here, none) (omega arith) in once)
      (λ (other : number ≡ first → ⊥).
      let rest = times-other number (new first) (from (suc first) n) other in
      rw rest (new_passes-once number (suc first) n))
      (cases_eq number first)

  -- there are as many as were asked for
  pub new_passes-length : (first n : ℕ) → length (from first n) ≡ n
  new_passes-length first zero = refl
  new_passes-length first (suc n) = ap suc (new_passes-length (suc first) n)

  -- their numbers are those of the cell
  pub new_passes-numbers : (first n : ℕ) → 1 ≤ first → first + n ≤ suc seats
      → Every (IsOneOf seats) (from first n)
  new_passes-numbers first zero low high = tt
  new_passes-numbers first (suc n) low high =
      (((low, omega arith), refl), new_passes-numbers (suc first) n (omega arith) (omega arith))

  -- what holds of each number holds of each of them
  pub new_passes-every : (P : PassView N X → Type 0) → ((number : ℕ) → P (new number))
      → (first n : ℕ) → Every P (from first n)
  new_passes-every P each first zero = tt
  new_passes-every P each first (suc n) = (each first, new_passes-every P each (suc first) n)
