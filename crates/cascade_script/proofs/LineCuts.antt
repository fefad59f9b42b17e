-- Where a text is cut at the end of a line.
use Rattle.std.proofs.Common.{◌≡◌, ◌+◌, ◌<◌, ◌≤◌, ℕ, suc, ◌==◌, eq-eqb, eqb-true, true, false, Option, Some, None, List, [], ◌∷◌, ◌++◌, length, take, drop, refl, ap, sym, ◌∙◌, inl, inr, arith, length-append, subst}
use Rattle.std.proofs.lemmas.Bool.{cases_Bool}
use Rattle.std.proofs.lemmas.Bool.Decides.{nat_tests}
use Rattle.std.specs.Prelude.{nat_lt}
use Rattle.std.proofs.lemmas.List.{append_assoc, drop-drop, drop_all, take_all, take_at, length-drop}
use Rattle.std.proofs.Math.Seq.{take-append-add, drop-append-add}
use Rattle.std.specs.Str.Lines.{lines, strip_carriage_return}
use Rattle.ldif_text.specs.Field.{cut}
use Rattle.ldif_text.proofs.TextLines.{next-some, next-none}
use Rattle.cascade_script.specs.Lines.{IsCutAt}
use Rattle.cascade_script.specs.Reader.{body_of, after_body}
use Rattle.cascade_script.specs.Words.{is_empty}

-- what stands before a cut, and any bytes in place of the rest
cut-others : (mark : ℕ) (bs rest other : List ℕ) → (cut mark bs).1 ≡ Some rest → cut mark ((cut mark bs).0 ++ mark ∷ other) ≡ ((cut mark bs).0, Some other)
cut-others mark [] rest other e = cc
cut-others mark (b ∷ bs) rest other e =
    elim (cases_Bool (b == mark)) [
      | inl hit ↦ rw (hit, eq-eqb mark mark refl) refl
      | inr miss ↦ let e' : (cut mark bs).1 ≡ Some rest = rw miss at e in rw (miss, miss, cut-others mark bs rest other e') refl
    ]

cut-whole : (mark : ℕ) (bs rest : List ℕ) → (cut mark bs).1 ≡ Some rest → bs ≡ (cut mark bs).0 ++ mark ∷ rest
cut-whole mark [] rest e = cc
cut-whole mark (b ∷ bs) rest e =
    elim (cases_Bool (b == mark)) [
      | inl hit ↦ let e' : Some bs ≡ Some rest = rw hit at e in let same : b ≡ mark = eqb-true b mark hit in rw hit cc
      | inr miss ↦ let e' : (cut mark bs).1 ≡ Some rest = rw miss at e in rw miss (ap (λ l. b ∷ l) (cut-whole mark bs rest e'))
    ]

-- the bytes after a first line and those of it, with more bytes or none
drop-line : (first_part rest : List ℕ) → drop (length first_part + 1) (first_part ++ 10 ∷ rest) ≡ rest
drop-line first_part rest = drop-append-add first_part (10 ∷ rest) 1

take-line : (first_part rest : List ℕ) (n : ℕ) → take (length first_part + 1 + n) (first_part ++ 10 ∷ rest) ≡ first_part ++ 10 ∷ take n rest
take-line first_part rest n = let s : length first_part + 1 + n ≡ length first_part + suc n = omega arith in rw s (take-append-add first_part (10 ∷ rest) (suc n))

-- the lines of a line, its line feed and what follows
lines-first : (first_part other : List ℕ) → cut 10 (first_part ++ 10 ∷ other) ≡ (first_part, Some other) → lines (first_part ++ 10 ∷ other) ≡ strip_carriage_return first_part ∷ lines other
lines-first first_part other e =
    let whole = first_part ++ 10 ∷ other in
    let filled : 0 < length whole = omega (arith, length-append first_part (10 ∷ other)) in
    let from_start : lines whole ≡ strip_carriage_return first_part ∷ lines (drop (length first_part + 1) whole) =
    next-some whole first_part other 0 (length first_part + 1) filled (sym (ap (λ x. x.0) e)) (sym (ap (λ x. x.1) e)) (omega arith) in
    from_start ∙ ap (λ t. strip_carriage_return first_part ∷ lines t) (drop-line first_part other)

IsCut-first_part : (first_part rest : List ℕ) → ((other : List ℕ) → lines (first_part ++ 10 ∷ other) ≡ strip_carriage_return first_part ∷ lines other) → IsCutAt (first_part ++ 10 ∷ rest) (length first_part + 1)
IsCut-first_part first_part rest is = record {
  parts = λ n.
      let line : lines (take (length first_part + 1) (first_part ++ 10 ∷ rest)) ≡ strip_carriage_return first_part ∷ [] =
      ap lines (take-append-add first_part (10 ∷ rest) 1) ∙ is [] in
      ap lines (take-line first_part rest n) ∙ is (take n rest) ∙ rw (line, drop-line first_part rest) refl;
}

-- a first line that a line feed ends
is_first : (text rest : List ℕ) → (cut 10 text).1 ≡ Some rest → (other : List ℕ) → lines ((cut 10 text).0 ++ 10 ∷ other) ≡ strip_carriage_return (cut 10 text).0 ∷ lines other
is_first text rest e other = lines-first (cut 10 text).0 other (cut-others 10 text rest other e)

-- after a line and its line feed
pub IsCut-line : (text line rest : List ℕ) → line ≡ (cut 10 text).0 → Some rest ≡ (cut 10 text).1 → IsCutAt text (length line + 1)
IsCut-line text line rest first_part back =
    let e = sym back in
    subst (λ l. IsCutAt text (length l + 1)) (sym first_part)
    (subst (λ t. IsCutAt t (length (cut 10 text).0 + 1)) (sym (cut-whole 10 text rest e)) (IsCut-first_part (cut 10 text).0 rest (is_first text rest e)))

-- it is one line
pub one-line : (text line rest : List ℕ) → line ≡ (cut 10 text).0 → Some rest ≡ (cut 10 text).1 → length (lines (take (length line + 1) text)) ≡ 1
one-line text line rest first_part back =
    let e = sym back in
    let f = (cut 10 text).0 in
    let piece : take (length f + 1) text ≡ f ++ 10 ∷ [] = ap (take (length f + 1)) (cut-whole 10 text rest e) ∙ take-append-add f (10 ∷ rest) 1 in
    rw first_part (ap (λ t. length (lines t)) piece ∙ ap length (is_first text rest e []))

-- both are in the text
pub within-line : (text line rest : List ℕ) → line ≡ (cut 10 text).0 → Some rest ≡ (cut 10 text).1 → length line + 1 ≤ length text
within-line text line rest first_part back =
    let whole = cut-whole 10 text rest (sym back) in
    omega (arith, ap length whole, ap length first_part, length-append (cut 10 text).0 (10 ∷ rest))

-- a first line that the text ends
pub one-last : (text : List ℕ) → 0 < length text → None ≡ (cut 10 text).1 → length (lines (take (length text) text)) ≡ 1
one-last text l back =
    let last : lines text ≡ (cut 10 text).0 ∷ lines (drop (length text) text) = next-none text (cut 10 text).0 0 (length text) l refl back refl in
    ap (λ t. length (lines t)) (take_all (length text) text (omega arith)) ∙ ap length last ∙ ap (λ t. suc (length (lines t))) (drop_all (length text) text (omega arith))

-- a cut of what follows a cut
pub IsCut-more : (text : List ℕ) (at more : ℕ) → IsCutAt text at → IsCutAt (drop at text) more → IsCutAt text (at + more)
IsCut-more text at more c d = record {
  parts = λ n.
      let s : at + more + n ≡ at + (more + n) = omega arith in
      let rest : drop (at + more) text ≡ drop more (drop at text) = sym (drop-drop more at text) in
      rw (s, rest, c.parts more) (c.parts (more + n) ∙ ap (λ l. lines (take at text) ++ l) (d.parts n) ∙ sym (append_assoc (lines (take at text)) (lines (take more (drop at text))) (lines (take n (drop more (drop at text))))));
}

-- the lines of a text are those before a cut and those after it
pub lines-parts : (text : List ℕ) (at : ℕ) → IsCutAt text at → lines text ≡ lines (take at text) ++ lines (drop at text)
lines-parts text at c =
    let whole : take (at + length text) text ≡ text = take_all (at + length text) text (omega arith) in
    let rest : take (length text) (drop at text) ≡ drop at text = take_all (length text) (drop at text) (omega (arith, length-drop at text)) in
    ap lines (sym whole) ∙ c.parts (length text) ∙ ap (λ t. lines (take at text) ++ lines t) rest

-- some bytes have a line
pub some_lines : (text : List ℕ) → 0 < length text → 0 < length (lines text)
some_lines text l = by_cut (cut 10 text).1 refl
  where
    by_cut : (back : Option (List ℕ)) → back ≡ (cut 10 text).1 → 0 < length (lines text)
    by_cut None e =
        let is : lines text ≡ (cut 10 text).0 ∷ lines (drop (length text) text) = next-none text (cut 10 text).0 0 (length text) l refl e refl in
        rw is (omega arith)
    by_cut (Some rest) e =
        let is : lines text ≡ strip_carriage_return (cut 10 text).0 ∷ lines (drop (length (cut 10 text).0 + 1) text) =
        next-some text (cut 10 text).0 rest 0 (length (cut 10 text).0 + 1) l refl e (omega arith) in
        rw is (omega arith)

-- ---- n first lines

-- up to the cut there are as many lines, and after it there is one more at least
pub more_lines : (text : List ℕ) (at count : ℕ) → IsCutAt text at → at < length text → length (lines (take at text)) ≡ count
    → (lines (take at text) ≡ take count (lines text)) × (nat_lt count (length (lines text)) ≡ true)
more_lines text at count c l n =
    let parts = lines-parts text at c in
    let left : 0 < length (lines (drop at text)) = some_lines (drop at text) (omega (arith, length-drop at text)) in
    let long : count < length (lines text) = omega (arith, ap length parts, length-append (lines (take at text)) (lines (drop at text))) in
    (sym (ap (take count) parts ∙ take_at (lines (take at text)) (lines (drop at text)) count n), grind (arith, nat_tests))

-- ---- a record's lines

-- one more line that is not empty
body_of-next : (text line : List ℕ) (rest : List (List ℕ)) (at more : ℕ) → IsCutAt text at → IsCutAt (drop at text) more → length (lines (take more (drop at text))) ≡ 1
    → lines (drop at text) ≡ line ∷ rest → (lines (take (at + more) text) ≡ lines (take at text) ++ line ∷ []) × (lines (drop (at + more) text) ≡ rest)
body_of-next text line rest at more c d one is =
    let here = drop at text in
    let joined : line ∷ rest ≡ lines (take more here) ++ lines (drop more here) = sym is ∙ lines-parts here more d in
    let first = one_first (lines (take more here)) (lines (drop more here)) rest line one joined in
    (c.parts more ∙ ap (λ t. lines (take at text) ++ t) first.0, ap lines (sym (drop-drop more at text)) ∙ first.1)
  where
    one_first : (xs ys zs : List (List ℕ)) (z : List ℕ) → length xs ≡ 1 → z ∷ zs ≡ xs ++ ys → (xs ≡ z ∷ []) × (ys ≡ zs)
    one_first [] ys zs z e f = absurd (omega (arith, e))
    one_first (x ∷ []) ys zs z e f = (cc, cc)
    one_first (x ∷ y ∷ xs) ys zs z e f = absurd (omega (arith, e))

-- a line with a byte is not empty
pub filled_line : (line : List ℕ) → 0 < length line → is_empty line ≡ false
filled_line [] l = absurd (omega arith)
filled_line (b ∷ line) l = refl

-- a line that is not empty is one of the record
pub body-more : (text line : List ℕ) (rest : List (List ℕ)) (at more : ℕ) → IsCutAt text at → IsCutAt (drop at text) more → length (lines (take more (drop at text))) ≡ 1
    → lines (drop at text) ≡ line ∷ rest → is_empty line ≡ false
    → body_of (lines text) ≡ lines (take at text) ++ body_of (lines (drop at text)) → body_of (lines text) ≡ lines (take (at + more) text) ++ body_of (lines (drop (at + more) text))
body-more text line rest at more c d one is filled so_far =
    let next = body_of-next text line rest at more c d one is in
    let here : body_of (lines (drop at text)) ≡ line ∷ body_of rest = ap body_of is ∙ rw filled refl in
    rw (next.0, next.1) (so_far ∙ ap (λ t. lines (take at text) ++ t) here ∙ sym (append_assoc (lines (take at text)) (line ∷ []) (body_of rest)))

-- and what stands after the record stands after it
pub after-more : (text line : List ℕ) (rest : List (List ℕ)) (at more : ℕ) → IsCutAt text at → IsCutAt (drop at text) more → length (lines (take more (drop at text))) ≡ 1
    → lines (drop at text) ≡ line ∷ rest → is_empty line ≡ false
    → after_body (lines (drop at text)) ≡ after_body (lines (drop (at + more) text))
after-more text line rest at more c d one is filled =
    let next = body_of-next text line rest at more c d one is in
    ap after_body is ∙ rw (filled, next.1) refl

-- ---- no more lines than the most

-- all lines up to the limit were kept
pub all_lines : (first_part kept text : List ℕ) (whole most : ℕ) → first_part ≡ take whole text → take whole text ≡ kept → nat_lt most (length (lines first_part)) ≡ false
    → lines (take whole text) ≡ take most (lines kept)
all_lines first_part kept text whole most is same few =
    let short : length (lines first_part) ≤ most = grind (arith, nat_tests) in
    ap lines (sym is) ∙ sym (take_all most (lines first_part) short) ∙ ap (λ t. take most (lines t)) (is ∙ same)
