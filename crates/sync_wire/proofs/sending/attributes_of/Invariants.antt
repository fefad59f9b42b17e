use Rattle.std.proofs.Common.{◌≡◌, map, take}
use Rattle.schema_rules.specs.Attributes.{raw_of}
use Rattle.sync_wire.proofs.sending.attributes_of.Given as goal

-- the attributes so far are in the list, by the names of their types
abbrev pub invariant-loop-attribute : goal.invariant-loop-attribute
invariant-loop-attribute l = l.list ≡ map raw_of (take l.attribute-index l.held)
