-- The least free number, looked for from 1 on.
use Rattle.std.proofs.Common.{◌≡◌, ◌<◌, ◌+◌, ◌-◌, ℕ, suc, true, false, cond, List, ◌∷◌, Some, None, ap, ◌∙◌, arith}
use Rattle.std.specs.Prelude.{not, is_some}
use Rattle.std.specs.List.{find}
use Rattle.directory_writes.proofs.Keyed.{kept_at}
use Rattle.sync_provider.specs.Accepting.{is_free, numbers_from}
use Rattle.sync_provider.specs.Search.{SearchState}
use Rattle.sync_provider.specs.Staging.{HeldSearch, searches_of}
use Rattle.sync_provider.proofs.Held.{search_some}

next_number : (n : ℕ) → n < 65 → numbers_from n (65 - n) ≡ n ∷ numbers_from (n + 1) (65 - (n + 1))
next_number n low = let left : 65 - n ≡ suc (65 - (n + 1)) = omega (arith, low) in ap (numbers_from n) left

taken : (es : List (ℕ × HeldSearch)) (n : ℕ) → is_free (searches_of es) n ≡ not (is_some (kept_at es n))
taken es n = ap not (search_some es n)

-- it is this one, where no search has it
pub found_here : (es : List (ℕ × HeldSearch)) (n : ℕ) → n < 65 → is_some (kept_at es n) ≡ false → find (is_free (searches_of es)) (numbers_from n (65 - n)) ≡ Some n
found_here es n low free =
    ap (find (is_free (searches_of es))) (next_number n low)
    ∙ ap (λ b. cond b (Some n) (find (is_free (searches_of es)) (numbers_from (n + 1) (65 - (n + 1))))) (taken es n ∙ ap not free)

-- it is a later one, where a search has this one
pub found_later : (es : List (ℕ × HeldSearch)) (n : ℕ) → n < 65 → is_some (kept_at es n) ≡ true
    → find (is_free (searches_of es)) (numbers_from n (65 - n)) ≡ find (is_free (searches_of es)) (numbers_from (n + 1) (65 - (n + 1)))
found_later es n low used =
    ap (find (is_free (searches_of es))) (next_number n low)
    ∙ ap (λ b. cond b (Some n) (find (is_free (searches_of es)) (numbers_from (n + 1) (65 - (n + 1))))) (taken es n ∙ ap not used)

-- there is none after the last one
pub found_none : (searches : List (ℕ × SearchState)) (n : ℕ) → n ≡ 65 → find (is_free searches) (numbers_from n (65 - n)) ≡ None
found_none searches n end = let none : 65 - n ≡ 0 = omega (arith, end) in ap (λ k. find (is_free searches) (numbers_from n k)) none
