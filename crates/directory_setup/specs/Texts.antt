-- The texts of files, which may be too long.
use Rattle.std.specs.Prelude.{◌≡◌, ℕ, ◌+◌, ◌-◌, ◌≤◌, ◌&&◌, ◌++◌, nat_lt, nat_le, count_by, ◌==◌, if◌then◌else◌, List, [], length, take, Option, Some, None, IfSome}
use Rattle.directory_setup.specs.declared.refusal.TooLong.{TooLong}
use Rattle.directory_setup.specs.declared.text_file.FileText.{FileText}
use Rattle.directory_setup.specs.declared.text_file.FileText.TheVariants as found

-- how many bytes and lines a text may have
abbrev pub most_bytes : ℕ
most_bytes = 67108864

abbrev pub most_lines : ℕ
most_lines = 1000000

-- how many lines end in some bytes
abbrev pub line_feeds : List ℕ → ℕ
line_feeds bytes = count_by (λ byte. byte == 10) bytes

-- a text has too many lines: the first line that is one too many, with the limit that it passes
unfoldable pub too_many_lines : List ℕ → Option TooLong
too_many_lines text =
    if nat_le most_lines (line_feeds (take (length text - 1) text))
    then Some (record { line = most_lines + 1; limit = most_lines }) else None

-- the line where a text becomes too long: that of the first byte that is one too many, or the first
-- line that is, whichever comes first, with the limit that it passes
unfoldable pub too_long : List ℕ → Option TooLong
too_long text =
    if nat_lt most_bytes (length text) && nat_lt (line_feeds (take most_bytes text)) most_lines
    then Some (record { line = line_feeds (take most_bytes text) + 1; limit = most_bytes })
    else too_many_lines text

-- what was read of a file that has these bytes: all, or enough of them to see that they are too
-- many
pub record IsRead (bytes text : List ℕ) : Type 0 where
  pub rest : List ℕ
  pub prefix : bytes ≡ text ++ rest
  pub whole : length text ≤ most_bytes → rest ≡ []

-- the same of a file whose bytes may not be reported, unless a read failed
abbrev pub IsReadOf : Option (List ℕ) → FileText → Type 0
IsReadOf left (found.Text text) = IfSome left (λ bytes. IsRead bytes text)
IsReadOf left found.Failed = Unit {0}
