-- A line with the lines that continue it.
use Rattle.std.proofs.Common.{◌≡◌, ℕ, true, false, List, [], ◌∷◌, ◌++◌, refl, ap, sym, inl, inr, append_assoc}
use Rattle.std.proofs.lemmas.Bool.{cases_Bool}
use Rattle.ldif_text.specs.declared.lines.Line.{Line}
use Rattle.ldif_text.specs.Lines.{is_empty, is_continuation, is_continued, next_number, onto, unfolded}

abbrev line_of : ℕ → ℕ → List ℕ → Line
line_of first last text = record { first = first; last = last; text = text }

-- the first line is the one that the others are joined to
pub unfolded_cons : (number : ℕ) (text : List ℕ) (texts : List (List ℕ)) → unfolded number (text ∷ texts) ≡ onto (line_of number number text) (unfolded (next_number number) texts)
unfolding unfolded
unfolded_cons number text texts = refl

-- a text without lines has none
pub unfolded_nil : (number : ℕ) → unfolded number [] ≡ []
unfolding unfolded
unfolded_nil number = refl

-- an empty line is continued by none
pub onto_empty : (line : Line) (rest : List Line) → is_empty line.text ≡ true → onto line rest ≡ line ∷ rest
onto_empty line [] e = refl
onto_empty line (next ∷ rest) e =
    elim (cases_Bool (is_continuation next.text)) [
      | inl hit ↦ rw (hit, e) refl
      | inr miss ↦ rw miss refl
    ]

-- what a line is joined with does not change whether it continues the line before
onto_first : (before : Line) (first last : ℕ) (text : List ℕ) (rest : List Line) → is_continuation text ≡ false → onto before (onto (line_of first last text) rest) ≡ before ∷ onto (line_of first last text) rest
onto_first before first last text [] e = rw e refl
onto_first before first last [] (next ∷ rest) e =
    elim (cases_Bool (is_continuation next.text)) [
      | inl hit ↦ rw hit refl
      | inr miss ↦ rw miss refl
    ]
onto_first before first last (b ∷ text) (next ∷ rest) e =
    elim (cases_Bool (is_continuation next.text)) [
      | inl hit ↦ rw hit (rw e refl)
      | inr miss ↦ rw miss (rw e refl)
    ]

-- a line that does not continue the one before
pub onto_end : (line : Line) (number : ℕ) (texts : List (List ℕ)) → is_continued texts ≡ false → onto line (unfolded number texts) ≡ line ∷ unfolded number texts
onto_end line number [] e = rw unfolded_nil refl
onto_end line number (text ∷ texts) e = rw unfolded_cons (onto_first line number number text (unfolded (next_number number) texts) e)

-- a continuation, with the lines that continue it
onto_onto : (first last number : ℕ) (whole text : List ℕ) (rest : List Line) → is_empty whole ≡ false
    → onto (line_of first last whole) (onto (line_of number number (32 ∷ text)) rest) ≡ onto (line_of first number (whole ++ text)) rest
onto_onto first last number [] text rest e = cc
onto_onto first last number (b ∷ whole) text [] e = refl
onto_onto first last number (b ∷ whole) text (next ∷ rest) e =
    elim (cases_Bool (is_continuation next.text)) [
      | inl hit ↦ rw hit (ap (λ t. line_of first next.last (b ∷ t) ∷ rest) (sym (append_assoc whole text _)))
      | inr miss ↦ rw miss refl
    ]

-- a line that continues the one before
pub onto_more : (first last number next : ℕ) (whole longer text : List ℕ) (here texts : List (List ℕ)) → is_empty whole ≡ false
    → here ≡ (32 ∷ text) ∷ texts → next ≡ next_number number → longer ≡ whole ++ text
    → onto (line_of first last whole) (unfolded number here) ≡ onto (line_of first number longer) (unfolded next texts)
onto_more first last number next whole longer text here texts e h n l =
    rw (h, n, l, unfolded_cons) (onto_onto first last number whole text (unfolded (next_number number) texts) e)

-- a line with more after it is not empty
pub filled_more : (whole longer text : List ℕ) → is_empty whole ≡ false → longer ≡ whole ++ text → is_empty longer ≡ false
filled_more [] longer text e l = cc
filled_more (b ∷ whole) longer text e l = rw l refl

-- the lines from a place on, by the first of them
pub left_nil : (number : ℕ) (texts : List (List ℕ)) → texts ≡ [] → unfolded number texts ≡ []
left_nil number texts e = rw e (unfolded_nil number)

-- an empty line is a line of its own
pub left_empty : (number next : ℕ) (text whole : List ℕ) (here texts : List (List ℕ)) → here ≡ text ∷ texts → next ≡ next_number number → whole ≡ text → is_empty whole ≡ true
    → unfolded number here ≡ line_of number number whole ∷ unfolded next texts
left_empty number next text whole here texts h n w e = rw (h, n, ← w, unfolded_cons) (onto_empty (line_of number number whole) (unfolded (next_number number) texts) e)

-- a line that nothing continues is a line of its own
pub left_cons : (number next : ℕ) (text whole : List ℕ) (here texts : List (List ℕ)) → here ≡ text ∷ texts → next ≡ next_number number → whole ≡ text
    → unfolded number here ≡ onto (line_of number number whole) (unfolded next texts)
left_cons number next text whole here texts h n w = rw (h, n, w) (unfolded_cons number text texts)
