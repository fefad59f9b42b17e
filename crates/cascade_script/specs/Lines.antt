-- The lines of a script.
use Rattle.std.specs.Prelude.{◌≡◌, ℕ, ◌+◌, Bool, Option, Some, None, List, [], ◌∷◌, ◌++◌, length, take, drop, nat_lt, ◌==◌, if◌then◌else◌}
use Rattle.std.specs.List.{list_any}
use Rattle.std.specs.Str.Lines.{lines}

-- the lines of a text, each without the line feed at its end and without one carriage return in
-- prefix of that; bytes after the last line feed are one more line
abbrev pub text_lines : List ℕ → List (List ℕ)
text_lines text = lines text

-- n first bytes end where a line does: the lines of the text to any byte after are
-- those of the two parts
pub record IsCutAt (text : List ℕ) (at : ℕ) : Type 0 where
  pub parts :
      (n : ℕ) → lines (take (at + n) text) ≡ lines (take at text) ++ lines (take n (drop at text))

-- the bytes up to the last such byte, that one included
abbrev pub up_to_last : ℕ → List ℕ → List ℕ
up_to_last mark [] = []
up_to_last mark (b ∷ bytes) =
    if list_any (λ c. c == mark) (b ∷ bytes) then b ∷ up_to_last mark bytes else []

-- the most bytes and lines of a script
abbrev pub most_bytes : ℕ
most_bytes = 67108864

abbrev pub most_lines : ℕ
most_lines = 1000000

abbrev pub has_more : ℕ → List ℕ → Bool
has_more most text = nat_lt most (length text)

-- the bytes before the line that holds the first byte beyond n, or all
abbrev pub kept_bytes : ℕ → List ℕ → List ℕ
kept_bytes most text = if has_more most text then up_to_last 10 (take most text) else text

-- the lines of a script before the first that passes a limit
abbrev pub script_lines : List ℕ → List (List ℕ)
script_lines text = take most_lines (text_lines (kept_bytes most_bytes text))

-- the limit that the line after those passes, where there is one
abbrev pub limit_passed : List ℕ → Option ℕ
limit_passed text =
    if nat_lt most_lines (length (text_lines (kept_bytes most_bytes text))) then Some most_lines
    else if has_more most_bytes text then Some most_bytes
    else None
