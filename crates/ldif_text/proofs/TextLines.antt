-- The first line of a text and the lines after it.
use Rattle.std.proofs.Common.{◌≡◌, ◌+◌, ◌<◌, ◌≤◌, ℕ, false, ◌==◌, Option, Some, None, List, [], ◌∷◌, length, drop, refl, ap, sym, ◌∙◌, inl, inr, arith, add-one}
use Rattle.std.proofs.lemmas.Bool.{cases_Bool}
use Rattle.std.proofs.lemmas.Bool.Decides.{nat_tests}
use Rattle.std.proofs.lemmas.List.{drop-drop, drop_all, length-drop}
use Rattle.std.specs.List.{slice_split, onto_first}
use Rattle.std.specs.Str.Lines.{lines, lines_of_parts, strip_carriage_return}
use Rattle.ldif_text.specs.Field.{cut}

-- the parts of what follows a cut
abbrev parts_after : ℕ → Option (List ℕ) → List (List ℕ)
parts_after mark None = []
parts_after mark (Some rest) = slice_split (λ b. b == mark) rest

split-cut : (mark : ℕ) (bs : List ℕ) → slice_split (λ b. b == mark) bs ≡ (cut mark bs).0 ∷ parts_after mark (cut mark bs).1
split-cut mark [] = refl
split-cut mark (b ∷ bs) =
    elim (cases_Bool (b == mark)) [
      | inl hit ↦ rw hit refl
      | inr miss ↦ rw miss (ap (onto_first b) (split-cut mark bs))
    ]

-- a first line that a line feed ends
pub lines-some : (bs rest : List ℕ) → (cut 10 bs).1 ≡ Some rest → lines bs ≡ strip_carriage_return (cut 10 bs).0 ∷ lines rest
lines-some bs rest e =
    let prefix = (cut 10 bs).0 in
    let whole : slice_split (λ b. b == 10) bs ≡ prefix ∷ slice_split (λ b. b == 10) rest = split-cut 10 bs ∙ ap (λ o. prefix ∷ parts_after 10 o) e in
    let next = split-cut 10 rest in
    ap lines_of_parts whole ∙ ap (λ p. lines_of_parts (prefix ∷ p)) next ∙ ap (λ p. strip_carriage_return prefix ∷ lines_of_parts p) (sym next)

cut-none : (mark : ℕ) (bs : List ℕ) → (cut mark bs).1 ≡ None → (cut mark bs).0 ≡ bs
cut-none mark [] e = refl
cut-none mark (b ∷ bs) e =
    elim (cases_Bool (b == mark)) [
      | inl hit ↦ let e' : Some bs ≡ None = rw hit at e in cc
      | inr miss ↦ let e' : (cut mark bs).1 ≡ None = rw miss at e in rw miss (ap (λ l. b ∷ l) (cut-none mark bs e'))
    ]

one_part : (bs : List ℕ) → 0 < length bs → lines_of_parts (bs ∷ []) ≡ bs ∷ []
one_part [] l = absurd (omega arith)
one_part (b ∷ bs) l = let some : (length (b ∷ bs) == 0) ≡ false = grind (arith, nat_tests) in rw some refl

-- a first line that the text ends
pub lines-none : (bs : List ℕ) → 0 < length bs → (cut 10 bs).1 ≡ None → lines bs ≡ (cut 10 bs).0 ∷ []
lines-none bs l e =
    let prefix = (cut 10 bs).0 in
    ap lines_of_parts (split-cut 10 bs ∙ ap (λ o. prefix ∷ parts_after 10 o) e) ∙ ap (λ f. lines_of_parts (f ∷ [])) (cut-none 10 bs e) ∙ one_part bs l ∙ ap (λ f. f ∷ []) (sym (cut-none 10 bs e))

-- where the rest stands
cut-place : (mark : ℕ) (bs rest : List ℕ) → (cut mark bs).1 ≡ Some rest → rest ≡ drop (length (cut mark bs).0 + 1) bs
cut-place mark [] rest e = cc
cut-place mark (b ∷ bs) rest e =
    elim (cases_Bool (b == mark)) [
      | inl hit ↦ let e' : Some bs ≡ Some rest = rw hit at e in rw hit cc
      | inr miss ↦ let e' : (cut mark bs).1 ≡ Some rest = rw miss at e in rw (miss, add-one) (cut-place mark bs rest e' ∙ ap (λ n. drop n bs) (add-one (length (cut mark bs).0)))
    ]

cut-length : (mark : ℕ) (bs rest : List ℕ) → (cut mark bs).1 ≡ Some rest → length (cut mark bs).0 + 1 + length rest ≡ length bs
cut-length mark [] rest e = cc
cut-length mark (b ∷ bs) rest e =
    elim (cases_Bool (b == mark)) [
      | inl hit ↦ let e' : Some bs ≡ Some rest = rw hit at e in let s : bs ≡ rest = cc in rw (hit, s) (omega arith)
      | inr miss ↦ let e' : (cut mark bs).1 ≡ Some rest = rw miss at e in rw miss (omega (arith, cut-length mark bs rest e'))
    ]

-- the line at a place, where a line feed ends it and where the text does
pub next-some : (bytes line rest : List ℕ) (at next : ℕ) → at < length bytes → line ≡ (cut 10 (drop at bytes)).0 → Some rest ≡ (cut 10 (drop at bytes)).1 → next ≡ at + length line + 1
    → lines (drop at bytes) ≡ strip_carriage_return line ∷ lines (drop next bytes)
next-some bytes line rest at next l prefix back n =
    let here = drop at bytes in
    let after : lines rest ≡ lines (drop next bytes) =
    ap lines (cut-place 10 here rest (sym back) ∙ drop-drop (length (cut 10 here).0 + 1) at bytes)
    ∙ ap (λ k. lines (drop k bytes)) (let s : at + (length (cut 10 here).0 + 1) ≡ next = omega (arith, n, ap length prefix) in s) in
    lines-some here rest (sym back) ∙ ap (λ t. strip_carriage_return (cut 10 here).0 ∷ t) after ∙ ap (λ f. strip_carriage_return f ∷ lines (drop next bytes)) (sym prefix)

-- where no line feed is left, the rest of the text is its last line
pub next-none : (bytes line : List ℕ) (at next : ℕ) → at < length bytes → line ≡ (cut 10 (drop at bytes)).0 → None ≡ (cut 10 (drop at bytes)).1 → next ≡ length bytes
    → lines (drop at bytes) ≡ line ∷ lines (drop next bytes)
next-none bytes line at next l prefix back n =
    let here = drop at bytes in
    let nothing : [] ≡ lines (drop next bytes) = ap lines (sym (drop_all next bytes (omega arith))) in
    lines-none here (simp length-drop (omega arith)) (sym back) ∙ ap (λ f. f ∷ []) (sym prefix) ∙ ap (λ t. line ∷ t) nothing

-- the next line lies within the text
pub next_within : (bytes line rest : List ℕ) (at : ℕ) → at < length bytes → line ≡ (cut 10 (drop at bytes)).0 → Some rest ≡ (cut 10 (drop at bytes)).1 → at + length line + 1 ≤ length bytes
next_within bytes line rest at l prefix back = omega (arith, cut-length 10 (drop at bytes) rest (sym back), ap length prefix, length-drop at bytes)
