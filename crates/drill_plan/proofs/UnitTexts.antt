-- The texts of units: lower-case letters and a digit.
use Rattle.std.proofs.Common.{◌≡◌, ℕ, ◌+◌, ◌<◌, Bool, true, false, if◌then◌else◌, [], ◌∷◌, ◌++◌, inl, inr, ap, arith}
use Rattle.std.specs.Prelude.{codes}
use Rattle.std.proofs.lemmas.Fmt.{decimal_digit}
use Rattle.drill_plan.specs.Names.{unit_text}
use Rattle.drill_plan.proofs.PlainKeys.{IsWord}

-- the text of a unit, as letters and a digit
pub digits : (writer : ℕ) (renamed : Bool) → writer < 8 → unit_text writer renamed ≡ 119 ∷ (48 + writer) ∷ (if renamed then codes "x" else [])
digits writer renamed small =
    ap (λ d. codes "w" ++ (d ++ (if renamed then codes "x" else []))) (decimal_digit writer (omega (arith, small)))

-- the text of a unit is a word
pub text_word : (writer : ℕ) (renamed : Bool) → writer < 8 → IsWord (119 ∷ (48 + writer) ∷ (if renamed then codes "x" else []))
text_word writer true small =
    (inr (omega arith, omega arith), (inl (omega arith, omega (arith, small)), (inr (omega arith, omega arith), tt)))
text_word writer false small = (inr (omega arith, omega arith), (inl (omega arith, omega (arith, small)), tt))
