use Rattle.std.proofs.Common.{◌≡◌, take}
use Rattle.schema_rules.specs.Attributes.{IsAttributeList}
use Rattle.sync_wire.specs.WireEntry.{attributes_of}
use Rattle.sync_wire.proofs.wire_entry.attributes_of.Given as goal

-- what is kept of the attributes so far is joined
abbrev pub invariant-loop-raw : goal.invariant-loop-raw
invariant-loop-raw l = record {
  joined : l.items.items ≡ attributes_of (take l.raw-index l.raws);
  list : IsAttributeList l.items.items;
}
