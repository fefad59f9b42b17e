-- The lines of an LDIF text, with those that continue them (RFC 2849, notes on
-- LDIF syntax, 2 and 3).
use Rattle.std.specs.Prelude.{ℕ, ◌+◌, ◌-◌, ◌^◌, Bool, true, false, not, ◌&&◌, ◌||◌, ◌==◌, min, List, [], ◌∷◌, ◌++◌, drop, if◌then◌else◌}
use Rattle.std.specs.Str.Lines.{lines}
use Rattle.ldif_text.specs.declared.lines.Line.{Line}
use Rattle.ldif_text.specs.declared.lines.Cursor.{Cursor}

abbrev pub is_empty : List ℕ → Bool
is_empty [] = true
is_empty (b ∷ bytes) = false

abbrev pub begins_with : ℕ → List ℕ → Bool
begins_with mark [] = false
begins_with mark (b ∷ bytes) = b == mark

-- a line that begins with a space continues the line before
abbrev pub is_continuation : List ℕ → Bool
is_continuation text = begins_with 32 text

-- whether the first of these lines continues the one before
abbrev pub is_continued : List (List ℕ) → Bool
is_continued [] = false
is_continued (text ∷ texts) = is_continuation text

-- a line that begins with `#` is a comment, with the lines that continue it
abbrev pub is_comment : List ℕ → Bool
is_comment text = begins_with 35 text

-- the number of the next line; the greatest number stands for all beyond it
abbrev pub next_number : ℕ → ℕ
next_number number = min (number + 1) (2 ^ 64 - 1)

-- the line before these lines, which the first of them may continue; an empty line
-- is continued by none
abbrev pub onto : Line → List Line → List Line
onto line [] = line ∷ []
onto line (next ∷ rest) =
    if is_continuation next.text && not (is_empty line.text)
    then record { first = line.first; last = next.last; text = line.text ++ drop 1 next.text }
    ∷ rest
    else line ∷ next ∷ rest

-- lines, numbered from this number on, each joined with those that continue it
unfoldable pub unfolded : ℕ → List (List ℕ) → List Line
unfolded number [] = []
unfolded number (text ∷ texts) =
    onto (record { first = number; last = number; text = text })
    (unfolded (next_number number) texts)

-- the lines of a text
abbrev pub text_lines : ℕ → List ℕ → List Line
text_lines number text = unfolded number (lines text)

-- the lines of a text from a place on
abbrev pub left_at : List ℕ → Cursor → List Line
left_at text c = text_lines c.number (drop c.at text)

-- ---- records stand apart by empty lines

abbrev pub is_blank : Line → Bool
is_blank line = is_empty line.text || is_comment line.text

-- the lines from the first on that is neither empty nor a comment
abbrev pub from_content : List Line → List Line
from_content [] = []
from_content (line ∷ lines) = if is_blank line then from_content lines else line ∷ lines

-- the lines before the first empty line, without the comments
abbrev pub record_lines : List Line → List Line
record_lines [] = []
record_lines (line ∷ lines) =
    if is_empty line.text then []
    else (if is_comment line.text then record_lines lines else line ∷ record_lines lines)

-- the lines from the first empty line on
abbrev pub after_record : List Line → List Line
after_record [] = []
after_record (line ∷ lines) = if is_empty line.text then line ∷ lines else after_record lines

-- the number of the last line of all, the lines that continue it among them
abbrev pub last_number : ℕ → List Line → ℕ
last_number number [] = number
last_number number (line ∷ lines) = last_number line.last lines
