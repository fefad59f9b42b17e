-- What is true of a new link.
use Rattle.std.specs.Prelude.{◌≡◌, ℕ, Option, List, [], Some}

-- no call of a new link has failed
pub record HasNoFaults (read_faults write_faults : ℕ) : Type 0 where
  pub reads : read_faults ≡ 0
  pub writes : write_faults ≡ 0

-- nothing was read from a new link or written to it
pub record IsUnused (read held : Option (List ℕ)) : Type 0 where
  pub unread : read ≡ Some []
  pub unwritten : held ≡ Some []
