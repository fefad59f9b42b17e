-- What is reported of an event as it goes on.
use Rattle.std.specs.Prelude.{ℕ, List, ◌++◌}
use Rattle.cascade_report.specs.Origins.{Lineage}
use Rattle.cascade_report.specs.ReportLines.{StoredStage, ReportLine, lines_text, stages_of}

-- what is reported so far of an event: the text of its lines, and the stages that took effect in
-- it, of whose origin the lineage reports
pub record Report : Type 0 where
  pub lineage : Lineage
  pub text : List ℕ
  pub stages : List StoredStage

-- with these lines at the end
abbrev pub said : Report → List ReportLine → Report
said report lines =
    record report {
      text = report.text ++ lines_text lines;
      stages = report.stages ++ stages_of lines;
    }
