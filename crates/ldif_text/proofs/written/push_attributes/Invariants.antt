use Rattle.std.proofs.Common.{◌≡◌, ◌++◌, take}
use Rattle.ldif_text.specs.Written.{attributes_text}
use Rattle.ldif_text.proofs.written.push_attributes.Given as goal

abbrev pub invariant-loop-attribute : goal.invariant-loop-attribute
invariant-loop-attribute l = l.text.items ≡ l.fn.text.items ++ attributes_text (take l.attribute-index l.attributes)
