-- A list of pairs as a journal.
use Rattle.std.specs.Prelude.{ℕ, List, [], map}
use Rattle.base_tests.specs.declared.pairs.Pairs.{Pairs}

-- the values as notes, each with its pass's number
abbrev pub entries_of : Pairs → List (ℕ × ℕ)
entries_of pairs = map (λ pair. (pair.1, pair.0)) pairs.list.items

-- passes have nothing but their entries
abbrev pub no_share : Pairs → ℕ → List ℕ
no_share pairs number = []
