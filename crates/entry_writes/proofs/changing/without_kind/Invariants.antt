use Rattle.std.proofs.Common.{◌≡◌, take}
use Rattle.entry_writes.specs.Edits.{without_kind}
use Rattle.entry_writes.proofs.changing.without_kind.Given as goal

-- the other types so far are there
abbrev pub invariant-loop-attribute : goal.invariant-loop-attribute
invariant-loop-attribute l = l.left.items ≡ without_kind (take l.attribute-index l.attributes) l.kind
