use Rattle.std.proofs.Common.{◌≡◌, ◌++◌, take}
use Rattle.std.specs.List.{flat_map}
use Rattle.ldif_text.specs.Received.{received_attribute_text}
use Rattle.ldif_text.proofs.received.push_received.Given as goal

abbrev pub invariant-loop-attribute : goal.invariant-loop-attribute
invariant-loop-attribute l = l.text.items ≡ l.fn.text.items ++ flat_map received_attribute_text (take l.attribute-index l.attributes)
