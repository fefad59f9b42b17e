-- Passes that are dealt, one after another.
use Rattle.std.proofs.Common.{◌≡◌, ℕ, suc, ◌+◌, ◌-◌, ◌<◌, List, [], ◌∷◌, ◌++◌, length, ap, ◌∙◌, subst, arith}
use Rattle.atomic_table.specs.Seated.{TableId}
use Rattle.turn_cell.specs.declared.pass.Pass.{Pass}
use Rattle.turn_cell.specs.Rule.{new_pass, new_passes}
use Rattle.turn_cell.specs.Passes.{cell_of, view_of, AreNew}

-- the first of those that are not dealt yet
pub new_passes-next : {N X : Type 0} (journal : List (N × ℕ)) (share : ℕ → List X) (place seats : ℕ) → place < seats
    → new_passes seats journal share (place + 1) (seats - place)
    ≡ new_pass seats journal share (place + 1) ∷ new_passes seats journal share (place + 1 + 1) (seats - (place + 1))
new_passes-next journal share place seats low =
    let count : seats - place ≡ suc (seats - (place + 1)) = omega arith in
    let next : suc (place + 1) ≡ place + 1 + 1 = omega arith in
    ap (new_passes seats journal share (place + 1)) count
    ∙ ap (λ n. new_pass seats journal share (place + 1) ∷ new_passes seats journal share n (seats - (place + 1))) next

-- one more at the end
pub AreNew-snoc : {D N X : Type 0} {g : _} (cell : TableId) (seats : ℕ) (journal : List (N × ℕ)) (share : ℕ → List X) (first number : ℕ)
    (passes : List (Pass D N X g)) (pass : Pass D N X g) → AreNew cell seats journal share first passes → first + length passes ≡ number
    → (cell_of pass ≡ cell) × (view_of pass ≡ new_pass seats journal share number)
    → AreNew cell seats journal share first (passes ++ pass ∷ [])
AreNew-snoc cell seats journal share first number [] pass all count new =
    let same : number ≡ first = omega arith in
    subst (λ n. (cell_of pass ≡ cell) × (view_of pass ≡ new_pass seats journal share n) × Unit {0}) same
    (new.0, new.1, tt)
AreNew-snoc cell seats journal share first number (x ∷ xs) pass all count new =
    (all.0, all.1, AreNew-snoc cell seats journal share (suc first) number xs pass all.2 (omega arith) new)
