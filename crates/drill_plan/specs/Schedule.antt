-- Writes of several writers in one list, each with the number of its writer.
use Rattle.std.specs.Prelude.{ℕ, ◌==◌, if◌then◌else◌, List, [], ◌∷◌, map}
use Rattle.entry_writes.specs.declared.op.Op.{Op}
use Rattle.entry_writes.specs.declared.op.Write.{Write}

abbrev pub NumberedWrites : Type 0
NumberedWrites = List (ℕ × Write)

-- the writes in their order
abbrev pub writes_of : NumberedWrites → List Write
writes_of numbered = map (λ w. w.1) numbered

-- the operations of the writer with this number, in their order
abbrev pub operations_by : ℕ → NumberedWrites → List Op
operations_by writer [] = []
operations_by writer (w ∷ numbered) =
    if w.0 == writer then w.1.op ∷ operations_by writer numbered
    else operations_by writer numbered
