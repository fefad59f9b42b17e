-- What was read of all texts.
use Rattle.sync_wire.specs.WireEntry.{are_uuids, first_other, uuid_values}
use Rattle.sync_wire.proofs.Identified.{read_all, read_other, read_same}
use Rattle.sync_wire.proofs.operational.check_uuid.Goals as goal

pub returns-in-Ok-clause-same : goal.returns-in-Ok-clause-same
returns-in-Ok-clause-same c =
    let raws = c.args.raws.now in
    read_same c.args.uuid (first_other c.args.uuid (uuid_values raws)) (are_uuids raws) c.in-Ok.all c.in-Ok.ensures

pub returns-in-Ok-clause-all : goal.returns-in-Ok-clause-all
returns-in-Ok-clause-all c =
    let raws = c.args.raws.now in
    read_all (first_other c.args.uuid (uuid_values raws)) (are_uuids raws) c.in-Ok.all c.in-Ok.ensures

pub returns-in-Err-clause-same : goal.returns-in-Err-clause-same
returns-in-Err-clause-same c =
    let raws = c.args.raws.now in
    read_other c.args.uuid (first_other c.args.uuid (uuid_values raws)) (are_uuids raws) c.in-Err.other c.in-Err.ensures
