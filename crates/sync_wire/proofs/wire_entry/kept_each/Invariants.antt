use Rattle.std.proofs.Common.{◌≡◌, take}
use Rattle.sync_wire.specs.WireEntry.{kept_values}
use Rattle.sync_wire.proofs.wire_entry.kept_each.Given as goal

-- those of the values so far that are kept are there
abbrev pub invariant-loop-value : goal.invariant-loop-value
invariant-loop-value l = l.list ≡ kept_values l.kind (take l.value-index l.values)
