-- What a read gives of the bytes that are left.
use Rattle.std.specs.Prelude.{ℕ, ◌≤◌, ⊤, Option, List, [], length, take}
use Rattle.std.specs.Io.KnownBytes.{Consumes, Keeps}
use Rattle.sync_io.specs.declared.source.Piece.{Piece}
use Rattle.sync_io.specs.declared.source.Piece.TheVariants.{Got, Quiet, End, Failed}

-- a count of bytes is 1 at least, and no more than the buffer has room for
abbrev pub FitsBuffer : Piece → List ℕ → Type 0
FitsBuffer (Got count) buffer = (1 ≤ count) × (count ≤ length buffer)
FitsBuffer Quiet buffer = ⊤
FitsBuffer End buffer = ⊤
FitsBuffer Failed buffer = ⊤

-- the beginning of the buffer was the next of the bytes left, and any other answer leaves them
abbrev pub GivesNext : Option (List ℕ) → Option (List ℕ) → Piece → List ℕ → Type 0
GivesNext old new (Got count) buffer = Consumes old new (take count buffer)
GivesNext old new Quiet buffer = Keeps old new
GivesNext old new End buffer = Keeps old new
GivesNext old new Failed buffer = Keeps old new

-- the bytes that a read gave: the beginning of the buffer, or none
abbrev pub bytes_given : Piece → List ℕ → List ℕ
bytes_given (Got count) buffer = take count buffer
bytes_given Quiet buffer = []
bytes_given End buffer = []
bytes_given Failed buffer = []
