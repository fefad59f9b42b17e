-- What a list of words is seen as.
use Rattle.std.specs.Prelude.{ℕ, List}

-- the words that are left, and how many calls found none
pub record WordsLeft : Type 0 where
  pub words : List ℕ
  pub faults : ℕ
