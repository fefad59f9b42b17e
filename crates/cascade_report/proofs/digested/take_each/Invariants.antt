use Rattle.std.proofs.Common.{ℕ, List, ◌++◌, map, take}
use Rattle.std.specs.List.{flat_map}
use Rattle.sha2.specs.Hashers.{Holds256}
use Rattle.cascade_report.specs.ReportLines.{entry_text}
use Rattle.cascade_report.proofs.digested.take_each.Given as goal

-- the texts of the entries so far are taken
abbrev pub invariant-loop-entry : goal.invariant-loop-entry
invariant-loop-entry l =
    (m : List ℕ) → Holds256 l.fn.hasher m → Holds256 l.hasher (m ++ flat_map entry_text (map (λ e. e.now) (take l.entry-index l.entries)))
