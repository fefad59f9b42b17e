use Rattle.std.proofs.Common.{◌≡◌, take}
use Rattle.entry_writes.proofs.changing.copies.Given as goal

-- the attributes so far are copied
abbrev pub invariant-loop-attribute : goal.invariant-loop-attribute
invariant-loop-attribute l = l.copied.items ≡ take l.attribute-index l.attributes
