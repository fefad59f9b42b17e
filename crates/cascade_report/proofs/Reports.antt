-- Lines that are reported of an event.
use Rattle.std.proofs.Common.{◌≡◌, List, [], ◌∷◌, ◌++◌, ap, sym, ◌∙◌, append-nil, append_assoc}
use Rattle.std.proofs.lemmas.List.Concat.{flat_map-append}
use Rattle.cascade_report.specs.ReportLines.{ReportLine, line_of, lines_text, stages_in, stages_of}
use Rattle.cascade_report.specs.Report.{Report, said}

-- a line that reports of no stage
pub reported : (old new : Report) (line : ReportLine) → stages_in line ≡ [] → new ≡ record old { text = old.text ++ line_of line } → new ≡ said old (line ∷ [])
reported old new line none is =
    let text : old.text ++ line_of line ≡ old.text ++ lines_text (line ∷ []) = ap (λ t. old.text ++ t) (sym (append-nil (line_of line))) in
    let stages : old.stages ≡ old.stages ++ stages_of (line ∷ []) = sym (append-nil old.stages) ∙ ap (λ s. old.stages ++ s) (sym (append-nil (stages_in line) ∙ none)) in
    is ∙ λ i. record { lineage = old.lineage; text = text i; stages = stages i }

-- a report to which no line is added is as before
pub said-none : (t : Report) → said t [] ≡ t
said-none t = λ i. record { lineage = t.lineage; text = append-nil t.text i; stages = append-nil t.stages i }

-- lines, and then others
pub said-append : (t : Report) (lines more : List ReportLine) → said (said t lines) more ≡ said t (lines ++ more)
said-append t lines more =
    let text : (t.text ++ lines_text lines) ++ lines_text more ≡ t.text ++ lines_text (lines ++ more) =
    append_assoc t.text (lines_text lines) (lines_text more) ∙ ap (λ s. t.text ++ s) (sym (flat_map-append line_of lines more)) in
    let stages : (t.stages ++ stages_of lines) ++ stages_of more ≡ t.stages ++ stages_of (lines ++ more) =
    append_assoc t.stages (stages_of lines) (stages_of more) ∙ ap (λ s. t.stages ++ s) (sym (flat_map-append stages_in lines more)) in
    λ i. record { lineage = t.lineage; text = text i; stages = stages i }
