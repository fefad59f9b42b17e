-- What the fault of a write reports.
use Rattle.std.specs.Prelude.{◌≡◌, ℕ, List, [], ◌∷◌, Option, Some, None}
use Rattle.std.specs.Option.{option_or}
use Rattle.entry_writes.specs.declared.fault.OpFault.{OpFault}
use Rattle.entry_writes.specs.declared.fault.OpFault.TheVariants.{Code, NoMemory}

-- the fault reports this code; out of memory reports nothing
abbrev pub HasOpCode : Option ℕ → OpFault → Type 0
HasOpCode code (Code number) = code ≡ Some number
HasOpCode code NoMemory = Unit {0}

-- the first code against the items of a list
abbrev pub first_code : {X : Type 0} → (X → Option ℕ) → List X → Option ℕ
first_code code [] = None
first_code code (x ∷ xs) = option_or (code x) (first_code code xs)
