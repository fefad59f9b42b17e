use Rattle.std.proofs.Common.{◌≡◌, ◌++◌, take}
use Rattle.std.specs.List.{flat_map}
use Rattle.ldif_text.specs.Written.{line_text}
use Rattle.ldif_text.proofs.received.push_attribute.Given as goal

abbrev pub invariant-loop-value : goal.invariant-loop-value
invariant-loop-value l = l.text.items ≡ l.fn.text.items ++ flat_map (line_text l.attribute.name) (take l.value-index l.value-items)
