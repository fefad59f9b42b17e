-- A place in a text.
use Rattle.std.specs.Prelude.{ℕ, List}

-- the place after the text, and the bytes that are left before it
pub record Place : Type 0 where
  pub stop : ℕ
  pub left : List ℕ
