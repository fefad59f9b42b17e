-- What the faults of the schema report.
use Rattle.std.specs.Prelude.{◌≡◌, ℕ, Option, Some}
use Rattle.schema_rules.specs.declared.fault.SchemaFault.{SchemaFault}
use Rattle.schema_rules.specs.declared.fault.SchemaFault.TheVariants.{Code, NoMemory}

-- the fault reports this code; out of memory reports nothing
abbrev pub HasCode : Option ℕ → SchemaFault → Type 0
HasCode code (Code number) = code ≡ Some number
HasCode code NoMemory = Unit {0}
