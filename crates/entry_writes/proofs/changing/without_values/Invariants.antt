use Rattle.std.proofs.Common.{◌≡◌, take}
use Rattle.entry_writes.specs.Edits.{filled, with_change, unmatched}
use Rattle.entry_writes.proofs.changing.without_values.Given as goal

-- what is left of the attributes so far is there
abbrev pub invariant-loop-attribute : goal.invariant-loop-attribute
invariant-loop-attribute l = l.left.items ≡ filled (with_change (unmatched l.kind l.keys.items) (take l.attribute-index l.attributes) l.kind)
