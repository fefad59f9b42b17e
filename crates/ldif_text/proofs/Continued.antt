-- Whether the line at a place continues the one before it, by the first byte there.
use Rattle.std.proofs.Common.{◌≡◌, ℕ, suc, ◌-◌, ◌<◌, ◌≤◌, false, ◌==◌, Option, Some, None, List, [], ◌∷◌, length, take, drop, get_or, refl, ap, ◌∙◌, inl, inr, arith}
use Rattle.std.proofs.lemmas.Bool.{cases_Bool, eqb-true}
use Rattle.std.proofs.lemmas.List.{drop_more, drop_all}
use Rattle.std.specs.Str.Lines.{lines, strip_carriage_return}
use Rattle.ldif_text.specs.Field.{cut}
use Rattle.ldif_text.specs.Lines.{begins_with, is_continued}
use Rattle.ldif_text.proofs.TextLines.{lines-some, lines-none}

shorter-begins : (b c : ℕ) (rest : List ℕ) → begins_with 32 (take (length (b ∷ c ∷ rest) - 1) (b ∷ c ∷ rest)) ≡ (b == 32)
shorter-begins b c rest = let long : length (b ∷ c ∷ rest) - 1 ≡ suc (length rest) = omega arith in ap (λ n. begins_with 32 (take n (b ∷ c ∷ rest))) long

-- a line begins alike without the carriage return at its end
strip-begins : (text : List ℕ) → begins_with 32 (strip_carriage_return text) ≡ begins_with 32 text
strip-begins [] = refl
strip-begins (b ∷ []) =
    elim (cases_Bool (b == 13)) [
      | inl hit ↦ let is : b ≡ 13 = eqb-true b 13 hit in rw is refl
      | inr miss ↦ rw miss refl
    ]
strip-begins (b ∷ c ∷ rest) =
    elim (cases_Bool (get_or (b ∷ c ∷ rest) (length (b ∷ c ∷ rest) - 1) 0 == 13)) [
      | inl hit ↦ rw hit (shorter-begins b c rest)
      | inr miss ↦ rw miss refl
    ]

-- and without what follows its line feed
cut-begins : (bs : List ℕ) → begins_with 32 (cut 10 bs).0 ≡ begins_with 32 bs
cut-begins [] = refl
cut-begins (b ∷ bs) =
    elim (cases_Bool (b == 10)) [
      | inl hit ↦ let is : b ≡ 10 = eqb-true b 10 hit in rw is refl
      | inr miss ↦ rw miss refl
    ]

-- the first line of a text continues another where the text begins with a space
continued-first : (bs : List ℕ) → is_continued (lines bs) ≡ begins_with 32 bs
continued-first [] = refl
continued-first (b ∷ bs) = by (cut 10 (b ∷ bs)).1 refl
  where
    by : (after : Option (List ℕ)) → (cut 10 (b ∷ bs)).1 ≡ after → is_continued (lines (b ∷ bs)) ≡ begins_with 32 (b ∷ bs)
    by (Some rest) e = ap is_continued (lines-some (b ∷ bs) rest e) ∙ strip-begins (cut 10 (b ∷ bs)).0 ∙ cut-begins (b ∷ bs)
    by None e = ap is_continued (lines-none (b ∷ bs) (omega arith) e) ∙ cut-begins (b ∷ bs)

-- within the text by the byte at the place
pub continued-within : (bs : List ℕ) (at : ℕ) → at < length bs → is_continued (lines (drop at bs)) ≡ (get_or bs at 0 == 32)
continued-within bs at within = continued-first (drop at bs) ∙ ap (begins_with 32) (drop_more bs at 0 within)

-- and at the end by none
pub continued-beyond : (bs : List ℕ) (at : ℕ) → length bs ≤ at → is_continued (lines (drop at bs)) ≡ false
continued-beyond bs at beyond = ap (λ t. is_continued (lines t)) (drop_all at bs beyond)
