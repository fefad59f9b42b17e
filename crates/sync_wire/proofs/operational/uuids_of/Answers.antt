-- One text more is read.
use Rattle.std.proofs.Common.{◌∷◌, [], sym, ap, ◌∙◌}
use Rattle.std.proofs.lemmas.List.{drop_all}
use Rattle.std.proofs.lemmas.Result.{err_from_is_err_and}
use Rattle.sync_wire.specs.WireEntry.{uuids_read}
use Rattle.sync_wire.proofs.Identified.{and_read, none_before, none_after, text_goes_on, text_stops}
use Rattle.sync_wire.proofs.operational.uuids_of.Goals as goal

pub loop-value-init : goal.loop-value-init
loop-value-init c = none_before (uuids_read c.args.uuid c.args.values.now)

pub returns-in_err-read : goal.returns-in_err-read
returns-in_err-read c =
    let p = err_from_is_err_and c.from_residual.result c.from_residual.ensures.1 in
    rw (p.1, p.2)
    (text_stops c.args.uuid c.args.values.now c.loop-value.value-index c.value-item.result c.loop-value.all c.in_err-read.field-0.0 c.loop-value-test.true c.value-item.is c.loop-value.invariant
    (c.in_err-read.ensures ∙ ap (λ t. uuids_read c.args.uuid (t ∷ [])) c.as_slice.ensures))

pub loop-value-preserved : goal.loop-value-preserved
loop-value-preserved c =
    text_goes_on c.args.uuid c.args.values.now c.loop-value.value-index c.value-item.result c.loop-value.all c.in_ok-read.read c.loop-value-test.true c.value-item.is c.loop-value.invariant
    (c.in_ok-read.ensures ∙ ap (λ t. uuids_read c.args.uuid (t ∷ [])) c.as_slice.ensures)

pub returns : goal.returns
returns c =
    none_after c.loop-value.all
    ∙ ap (λ rest. and_read c.loop-value.all (uuids_read c.args.uuid rest)) (sym (drop_all c.loop-value.value-index c.args.values.now c.loop-value-test.false)) ∙ c.loop-value.invariant
