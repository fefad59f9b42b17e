use Rattle.std.proofs.Common.{ap, sym, ◌∙◌}
use Rattle.ldif_text.specs.Field.{shown}
use Rattle.cascade_script.proofs.LineCuts.{IsCut-line, one-line, within-line, one-last}
use Rattle.cascade_script.proofs.lines.line_length.Goals as goal

pub returns-in_default-Some-clause-cut : goal.returns-in_default-Some-clause-cut
returns-in_default-Some-clause-cut c =
    IsCut-line c.args.text.now _ c.in_default-Some.field-0-1.now c.cut_at.ensures.prefix (ap shown (sym c.in_default-Some.is-1) ∙ c.cut_at.ensures.back)

pub returns-in_default-Some-clause-one : goal.returns-in_default-Some-clause-one
returns-in_default-Some-clause-one c =
    one-line c.args.text.now _ c.in_default-Some.field-0-1.now c.cut_at.ensures.prefix (ap shown (sym c.in_default-Some.is-1) ∙ c.cut_at.ensures.back)

pub returns-in_default-Some-clause-within : goal.returns-in_default-Some-clause-within
returns-in_default-Some-clause-within c =
    within-line c.args.text.now _ c.in_default-Some.field-0-1.now c.cut_at.ensures.prefix (ap shown (sym c.in_default-Some.is-1) ∙ c.cut_at.ensures.back)

pub returns-in_default-None-clause-one : goal.returns-in_default-None-clause-one
returns-in_default-None-clause-one c =
    one-last c.args.text.now c.requires (ap shown (sym c.in_default-None.is-1) ∙ c.cut_at.ensures.back)
