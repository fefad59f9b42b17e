use Rattle.std.proofs.Common.{◌∙◌, sym}
use Rattle.std.proofs.lemmas.Result.{err_from_is_err_and}
use Rattle.cascade_script.specs.Reading.{reader_at}
use Rattle.cascade_script.proofs.Records.{after_body-short, whole-refused}
use Rattle.cascade_script.proofs.script.write_at.Goals as goal

pub returns-clause-shorter : goal.returns-clause-shorter
returns-clause-shorter c = rw c.record_end-end.ensures.left (after_body-short _)

pub returns-in_err-change-clause-reads : goal.returns-in_err-change-clause-reads
returns-in_err-change-clause-reads c =
    let p = err_from_is_err_and c.from_residual.result c.from_residual.ensures.1 in
    let refused = c.in_err-change.ensures c.args.name (reader_at c.args.bytes.now c.args.limit c.record_end-end.result) in
    let end = c.record_end-end.ensures in
    let text = sym c.has_text_lines.ensures ∙ c.if-not-has_text_lines.false in
    rw (p.1, p.2) (whole-refused c.args.limit c.args.place.number c.args.name _ _ _ _ c.record_end-end.result.number _ _ end.left end.body end.number text c.in_default.ensures refused)
