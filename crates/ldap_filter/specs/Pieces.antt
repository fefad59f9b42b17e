-- The pieces of a substring filter.
use Rattle.std.specs.Prelude.{ℕ, Bool, ◌||◌, not, ◌==◌, List, length, Option, is_some}

-- one piece at least (RFC 4511, section 4.5.1.7.2)
abbrev pub has_piece : Option (List ℕ) → List (List ℕ) → Option (List ℕ) → Bool
has_piece initial middle last = is_some initial || (not (length middle == 0) || is_some last)
