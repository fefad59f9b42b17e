use Rattle.std.proofs.Common.{◌∙◌, arith, ap, sym}
use Rattle.std.proofs.lemmas.List.{take_rest}
use Rattle.ldif_text.specs.Field.{cut, shown}
use Rattle.ldif_text.proofs.TextLines.{next-some, next-none, next_within}
use Rattle.ldif_text.proofs.lines.line_at.Goals as goal

pub returns-in_default-Some-clause-within : goal.returns-in_default-Some-clause-within
returns-in_default-Some-clause-within c =
    let whole = take_rest c.args.text.now c.args.cursor.at in
    let prefix = c.cut_at.ensures.prefix ∙ ap (λ t. (cut 10 t).0) whole in
    let back = ap shown (sym c.in_default-Some.is-1) ∙ c.cut_at.ensures.back ∙ ap (λ t. (cut 10 t).1) whole in
    next_within c.args.text.now c.cut_at.result.0.now c.in_default-Some.field-0-1.now c.args.cursor.at c.requires prefix back

pub returns-in_default-Some-clause-line : goal.returns-in_default-Some-clause-line
returns-in_default-Some-clause-line c =
    let whole = take_rest c.args.text.now c.args.cursor.at in
    let prefix = c.cut_at.ensures.prefix ∙ ap (λ t. (cut 10 t).0) whole in
    let back = ap shown (sym c.in_default-Some.is-1) ∙ c.cut_at.ensures.back ∙ ap (λ t. (cut 10 t).1) whole in
    rw c.without_return.ensures (next-some c.args.text.now c.cut_at.result.0.now c.in_default-Some.field-0-1.now c.args.cursor.at _ c.requires prefix back (omega arith))

pub returns-in_default-None-clause-line : goal.returns-in_default-None-clause-line
returns-in_default-None-clause-line c =
    let whole = take_rest c.args.text.now c.args.cursor.at in
    let prefix = c.cut_at.ensures.prefix ∙ ap (λ t. (cut 10 t).0) whole in
    let back = ap shown (sym c.in_default-None.is-1) ∙ c.cut_at.ensures.back ∙ ap (λ t. (cut 10 t).1) whole in
    next-none c.args.text.now c.cut_at.result.0.now c.args.cursor.at _ c.requires prefix back (omega arith)
