-- What a file of a shelf gives.
use Rattle.std.specs.Prelude.{◌≡◌, ℕ, Bool, false, Option, List, IsSome}

-- these bytes are under the name, are all that is left to read, and no read waits for them
pub record IsFile (bytes left : Option (List ℕ)) (waits : Bool) : Type 0 where
  pub there : IsSome bytes
  pub unread : left ≡ bytes
  pub steady : waits ≡ false
