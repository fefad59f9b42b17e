-- Numbers in the words of a run.
use Rattle.std.specs.Prelude.{◌≡◌, ◌≤◌, ℕ, List}
use Rattle.std.specs.Fmt.{decimal}

-- a word is this number in decimal digits without a leading zero, and it is one of these
abbrev pub IsNumber : (word : List ℕ) → (least most : ℕ) → ℕ → Type 0
IsNumber word least most number =
    (least ≤ number) × (number ≤ most) × (word ≡ decimal number)
