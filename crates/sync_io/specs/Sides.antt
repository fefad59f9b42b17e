-- What each side of a link leaves of the other as it was.
use Rattle.std.specs.Prelude.{ℕ, Bool, List, Option}

-- what a link is where bytes come in
pub record SourceSide : Type 0 where
  pub left : Option (List ℕ)
  pub read : Option (List ℕ)
  pub waits : Bool
  pub faults : ℕ

-- what a link is where bytes go out
pub record SinkSide : Type 0 where
  pub held : Option (List ℕ)
  pub faults : ℕ
