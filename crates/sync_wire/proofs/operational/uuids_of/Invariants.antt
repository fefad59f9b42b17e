use Rattle.std.proofs.Common.{◌≡◌, drop}
use Rattle.sync_wire.specs.WireEntry.{uuids_read}
use Rattle.sync_wire.proofs.Identified.{and_read}
use Rattle.sync_wire.proofs.operational.uuids_of.Given as goal

-- the texts so far, and those after them, are read as all of them
abbrev pub invariant-loop-value : goal.invariant-loop-value
invariant-loop-value l = and_read l.all (uuids_read l.uuid (drop l.value-index l.values)) ≡ uuids_read l.uuid l.values
