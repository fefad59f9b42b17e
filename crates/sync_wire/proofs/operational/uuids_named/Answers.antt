-- One attribute more is read.
use Rattle.std.proofs.Common.{codes, sym, ap, ◌∙◌}
use Rattle.std.proofs.lemmas.List.{drop_all}
use Rattle.std.proofs.lemmas.Result.{err_from_is_err_and}
use Rattle.sync_wire.specs.WireEntry.{uuid_values, uuids_read}
use Rattle.sync_wire.proofs.Identified.{and_read, none_before, none_after, raw_goes_on, raw_stops}
use Rattle.sync_wire.proofs.operational.uuids_named.Goals as goal

pub loop-raw-init : goal.loop-raw-init
loop-raw-init c = none_before (uuids_read c.args.uuid (uuid_values c.args.raws.now))

pub returns-in_err-read : goal.returns-in_err-read
returns-in_err-read c =
    let p = err_from_is_err_and c.from_residual.result c.from_residual.ensures.1 in
    rw (p.1, p.2)
    (raw_stops (codes "entryUUID") c.args.uuid c.args.raws.now c.loop-raw.raw-index c.raw-item.result c.loop-raw.all c.in_err-read.field-0.0 c.loop-raw-test.true c.raw-item.is c.loop-raw.invariant c.in_err-read.ensures)

pub loop-raw-preserved : goal.loop-raw-preserved
loop-raw-preserved c =
    raw_goes_on (codes "entryUUID") c.args.uuid c.args.raws.now c.loop-raw.raw-index c.raw-item.result c.loop-raw.all c.in_ok-read.read c.loop-raw-test.true c.raw-item.is c.loop-raw.invariant c.in_ok-read.ensures

pub returns : goal.returns
returns c =
    none_after c.loop-raw.all
    ∙ ap (λ rest. and_read c.loop-raw.all (uuids_read c.args.uuid (uuid_values rest))) (sym (drop_all c.loop-raw.raw-index c.args.raws.now c.loop-raw-test.false)) ∙ c.loop-raw.invariant
