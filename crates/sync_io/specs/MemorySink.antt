-- What a sink in memory is seen as.
use Rattle.std.specs.Prelude.{ℕ, List}

-- the bytes that were written, and how many writes found no memory
pub record Contents : Type 0 where
  pub bytes : List ℕ
  pub faults : ℕ
