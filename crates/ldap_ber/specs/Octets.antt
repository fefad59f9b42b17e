-- Equality of lists of octet strings, as a test.
use Rattle.std.specs.Prelude.{ℕ, Bool, List}
use Rattle.std.specs.Str.{bytes_eq}
use Rattle.std.specs.Cmp.Lexicographic.{pointwise}

-- the same strings in the same order
abbrev pub lists_eq : List (List ℕ) → List (List ℕ) → Bool
lists_eq = pointwise bytes_eq
