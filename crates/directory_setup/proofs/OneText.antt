-- What is read of one file: two texts of it are the same, or pass one limit at one line.
use Rattle.std.proofs.Common.{◌≡◌, ℕ, ◌+◌, ◌-◌, ◌<◌, ◌≤◌, nat_lt, ◌==◌, Bool, true, false, cond, List, ◌++◌, length, take, Option, Some, None, refl, sym, ap, subst, ◌∙◌, inl, inr, arith, append-nil, length-append, take-take}
use Rattle.std.specs.Prelude.{◌⊎◌}
use Rattle.std.proofs.lemmas.Bool.{cases_lt, le-ltb, lt-ltb}
use Rattle.std.proofs.lemmas.List.{take-append-le}
use Rattle.std.proofs.lemmas.List.Sums.{sum_by-take-le}
use Rattle.directory_setup.specs.Setup.{Files, IsTextOf}
use Rattle.directory_setup.specs.Texts.{IsRead, line_feeds, most_bytes, most_lines, too_long}
use Rattle.directory_setup.specs.declared.refusal.TooLong.{TooLong}
use Rattle.directory_setup.proofs.TextLimits.{late_bytes, many_bytes, many_lines}

-- two texts pass one limit at one line, or are the same
pub record AreOneText (one other : List ℕ) : Type 0 where
  pub passed : too_long one ≡ too_long other
  pub same : too_long one ≡ None → one ≡ other

-- ---- files that are short enough

read_short : (bytes text : List ℕ) → IsRead bytes text → length text ≤ most_bytes → bytes ≡ text
read_short bytes text read few = read.prefix ∙ ap (λ (rest : List ℕ). text ++ rest) (read.whole few) ∙ append-nil text

-- no more was read than the file has
read_within : (bytes text : List ℕ) → IsRead bytes text → length text ≤ length bytes
read_within bytes text read =
    let whole : length bytes ≡ length (text ++ read.rest) = ap length read.prefix in
    omega (arith, whole, length-append text read.rest)

-- ---- files that are too long

read_long : (bytes text : List ℕ) → IsRead bytes text → most_bytes < length bytes → most_bytes < length text
read_long bytes text read long = by (cases_lt most_bytes (length text))
  where
    by : (most_bytes < length text) ⊎ (length text ≤ most_bytes) → most_bytes < length text
    by (inl more) = more
    by (inr few) = let same : length bytes ≡ length text = ap length (read_short bytes text read few) in absurd (omega (arith, long, same, few))

read_first : (bytes text : List ℕ) → IsRead bytes text → most_bytes < length text → take most_bytes bytes ≡ take most_bytes text
read_first bytes text read long =
    let within : most_bytes ≤ length text = omega (arith, long) in
    ap (take most_bytes) read.prefix ∙ take-append-le most_bytes text read.rest within

lines_rise : (few many : ℕ) (text : List ℕ) → few ≤ many → line_feeds (take few text) ≤ line_feeds (take many text)
lines_rise few many text less =
    subst (λ (first : List ℕ). line_feeds first ≤ line_feeds (take many text)) (take-take few many text less)
    (sum_by-take-le (λ byte. cond (byte == 10) 1 0) (take many text) few)

-- what a file passes whose first bytes have n lines
abbrev passed_with : ℕ → Option TooLong
passed_with lines =
    cond (nat_lt lines most_lines) (Some (record { line = lines + 1; limit = most_bytes })) (Some (record { line = most_lines + 1; limit = most_lines }))

passed_long : (bytes text : List ℕ) → IsRead bytes text → most_bytes < length bytes → too_long text ≡ passed_with (line_feeds (take most_bytes bytes))
passed_long bytes text read long = by (cases_lt lines most_lines)
  where
    lines : ℕ
    lines = line_feeds (take most_bytes bytes)

    more : most_bytes < length text
    more = read_long bytes text read long

    same : lines ≡ line_feeds (take most_bytes text)
    same = ap line_feeds (read_first bytes text read more)

    by : (lines < most_lines) ⊎ (most_lines ≤ lines) → too_long text ≡ passed_with lines
    by (inl few) =
        sym (many_bytes text lines same more few)
        ∙ sym (ap (λ b. cond b (Some (record { line = lines + 1; limit = most_bytes })) (Some (record { line = most_lines + 1; limit = most_lines }))) (lt-ltb lines most_lines few))
    by (inr many) =
        let all : most_lines ≤ line_feeds (take (length text - 1) text) =
        omega (arith, many, same, lines_rise most_bytes (length text - 1) text (omega (arith, more))) in
        sym (late_bytes text lines same many)
        ∙ sym (many_lines text (line_feeds (take (length text - 1) text)) refl all)
        ∙ sym (ap (λ b. cond b (Some (record { line = lines + 1; limit = most_bytes })) (Some (record { line = most_lines + 1; limit = most_lines }))) (le-ltb lines most_lines many))

passed_with-some : (lines : ℕ) → passed_with lines ≡ None → ⊥
passed_with-some lines = by (nat_lt lines most_lines)
  where
    by : (b : Bool) → cond {A = Option TooLong} b (Some (record { line = lines + 1; limit = most_bytes })) (Some (record { line = most_lines + 1; limit = most_lines })) ≡ None → ⊥
    by true is = cc
    by false is = cc

-- ---- one file

one_read : (bytes one other : List ℕ) → IsRead bytes one → IsRead bytes other → AreOneText one other
one_read bytes one other read read' = by (cases_lt most_bytes (length bytes))
  where
    by : (most_bytes < length bytes) ⊎ (length bytes ≤ most_bytes) → AreOneText one other
    by (inl long) = record {
      passed = passed_long bytes one read long ∙ sym (passed_long bytes other read' long);
      same = λ short. absurd (passed_with-some (line_feeds (take most_bytes bytes)) (sym (passed_long bytes one read long) ∙ short));
    }
    by (inr few) =
        let first : length one ≤ most_bytes = omega (arith, few, read_within bytes one read) in
        let second : length other ≤ most_bytes = omega (arith, few, read_within bytes other read') in
        let same : one ≡ other = sym (read_short bytes one read first) ∙ read_short bytes other read' second in
        record { passed = ap too_long same; same = λ short. same }

-- what was read of the file of one name
pub one_file : (files : Files) (name one other : List ℕ) → IsTextOf (Some files) name one → IsTextOf (Some files) name other → AreOneText one other
one_file files name one other (bytes, is, read) (bytes', is', read') =
    let found : ◌≡◌ {A = Option (List ℕ)} (Some bytes') (Some bytes) = sym is' ∙ is in
    let same : bytes' ≡ bytes = cc in
    one_read bytes one other read (subst (λ (held : List ℕ). IsRead held other) same read')
