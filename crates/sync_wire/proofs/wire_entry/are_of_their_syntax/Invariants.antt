use Rattle.std.proofs.Common.{◌≡◌, take, true}
use Rattle.std.specs.List.{list_all}
use Rattle.sync_wire.specs.WireEntry.{is_of_its_syntax}
use Rattle.sync_wire.proofs.wire_entry.are_of_their_syntax.Given as goal

-- the attributes so far are of their types' syntax
abbrev pub invariant-loop-attribute : goal.invariant-loop-attribute
invariant-loop-attribute l = list_all is_of_its_syntax (take l.attribute-index l.attributes) ≡ true
