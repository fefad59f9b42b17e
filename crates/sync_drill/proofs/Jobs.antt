-- What jobs give that are split among threads.
use Rattle.std.proofs.Common.{◌≡◌, ◌<◌, ℕ, suc, List, [], ◌∷◌, length, sym, subst, arith}
use Rattle.std.specs.Prelude.{Result, Ok, Err, IfOk, slice_index_or}
use Rattle.std.specs.List.{All, AllZip}

-- each job may be done
pub accepts : {X : Type 0} (P : X → Type 0) (xs : List X) → All P xs
    → (i : ℕ) (x : X) → i < length xs → x ≡ slice_index_or xs i x → P x
accepts P xs all i x low is = subst P (sym is) (all i x low)

-- each may be done, and this holds beside it
pub accepts_beside : {X : Type 0} (P : X → Type 0) (B : Type 0) (xs : List X) → All P xs → B
    → (i : ℕ) (x : X) → i < length xs → x ≡ slice_index_or xs i x → P x × B
accepts_beside P B xs all beside i x low is = (accepts P xs all i x low is, beside)

-- what came of the item at a place
pub record IsGiven {X Y : Type 0} (R : X → Y → Type 0) (xs : List X) (i : ℕ) (y : Y) : Type 0 where
  pub job : X
  pub job_is : (d : X) → slice_index_or xs i d ≡ job
  pub call : R job y

zip_from : {X Y : Type 0} (R : X → Y → Type 0) (xs : List X) (ys : List Y) → length ys ≡ length xs
    → ((i : ℕ) (d : Y) → i < length xs → IsGiven R xs i (slice_index_or ys i d)) → AllZip R xs ys
zip_from R [] [] count each = tt
zip_from R [] (y ∷ ys) count each = absurd (omega (arith, count))
zip_from R (x ∷ xs) [] count each = absurd (omega (arith, count))
zip_from R (x ∷ xs) (y ∷ ys) count each =
    let first : IsGiven R (x ∷ xs) 0 y = each 0 y (omega arith) in (
      subst (λ job. R job y) (sym (first.job_is x)) first.call,
      zip_from R xs ys (omega (arith, count)) (λ i d low.
          let one = each (suc i) d (omega (arith, low)) in
          record { job = one.job; job_is = one.job_is; call = one.call }),
    )

-- the results of all jobs
pub jobs_done : {V E X Y : Type 0} (items : V → List Y) (result : Result V E) (xs : List X) (R : X → Y → Type 0) (Gives : V → Type 0)
    → IfOk result (λ v. length (items v) ≡ length xs) → IfOk result Gives
    → ((v : V) (i : ℕ) (d : Y) → i < length xs → Gives v → IsGiven R xs i (slice_index_or (items v) i d)) → IfOk result (λ v. AllZip R xs (items v))
jobs_done items (Err fault) xs R Gives counted each given = tt
jobs_done items (Ok v) xs R Gives counted each given =
    zip_from R xs (items v) counted (λ i d low. given v i d low each)
