-- How far entries are digested.
use Rattle.std.specs.Prelude.{ℕ, List, [], Option, Some, None}
use Rattle.sha2.specs.Hashers.{Holds256}
use Rattle.sha2.specs.declared.Sha256.{Sha256}
use Rattle.entry_tree.specs.declared.entry.Entry.{Entry}
use Rattle.sync_consumer.specs.Staging.{up_to}
use Rattle.cascade_report.specs.ReportLines.{text_of}

-- the entries up to an identity, or none
abbrev pub prefix : Option ℕ → List Entry → List Entry
prefix None entries = []
prefix (Some uuid) entries = up_to uuid entries

-- a hasher has taken the text of the entries up to this identity
abbrev pub HasDigested : Sha256 → Option ℕ → List Entry → Type 0
HasDigested hasher reached entries = Holds256 hasher (text_of (prefix reached entries))
