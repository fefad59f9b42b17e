-- What a write does to the bytes that are held.
use Rattle.std.specs.Prelude.{◌≡◌, ℕ, ◌≤◌, ⊤, Option, List, ◌++◌, length, take}
use Rattle.std.specs.Io.KnownBytes.{Appends, Keeps}
use Rattle.sync_io.specs.declared.sink.Put.{Put}
use Rattle.sync_io.specs.declared.sink.Put.TheVariants.{Wrote, Failed}

-- a count of bytes is 1 at least, and no more than the piece has
abbrev pub FitsPiece : Put → List ℕ → Type 0
FitsPiece (Wrote count) piece = (1 ≤ count) × (count ≤ length piece)
FitsPiece Failed piece = ⊤

-- a prefix of the piece was appended, or nothing
abbrev pub AppendsPiece : Option (List ℕ) → Option (List ℕ) → Put → List ℕ → Type 0
AppendsPiece old new (Wrote count) piece = Appends old new (take count piece)
AppendsPiece old new Failed piece = Keeps old new

-- the bytes are a prefix, which was appended, and a rest
abbrev pub AppendsPrefix : Option (List ℕ) → Option (List ℕ) → List ℕ → Type 0
AppendsPrefix old new bytes =
    (prefix rest : List ℕ) × (bytes ≡ prefix ++ rest) × Appends old new prefix
