use Rattle.std.proofs.Common.{◌≡◌, map, take}
use Rattle.std.specs.List.{flat_map}
use Rattle.cascade_report.specs.ReportLines.{entry_text}
use Rattle.cascade_report.proofs.lines.text_of.Given as goal

abbrev pub invariant-loop-entry : goal.invariant-loop-entry
invariant-loop-entry l = l.text.items ≡ flat_map entry_text (map (λ e. e.now) (take l.entry-index l.entries))
