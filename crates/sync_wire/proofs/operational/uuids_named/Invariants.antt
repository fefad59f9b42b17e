use Rattle.std.proofs.Common.{◌≡◌, drop}
use Rattle.sync_wire.specs.WireEntry.{uuid_values, uuids_read}
use Rattle.sync_wire.proofs.Identified.{and_read}
use Rattle.sync_wire.proofs.operational.uuids_named.Given as goal

-- the values so far, and those after them, are read as all of them
abbrev pub invariant-loop-raw : goal.invariant-loop-raw
invariant-loop-raw l = and_read l.all (uuids_read l.uuid (uuid_values (drop l.raw-index l.raws))) ≡ uuids_read l.uuid (uuid_values l.raws)
