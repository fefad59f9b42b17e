use Rattle.std.proofs.Common.{◌≡◌, take}
use Rattle.entry_writes.specs.Edits.{with_change}
use Rattle.entry_writes.proofs.changing.with_other_values.Given as goal

-- the attributes so far are there, with the values where they are of the type
abbrev pub invariant-loop-attribute : goal.invariant-loop-attribute
invariant-loop-attribute l = l.items.items ≡ with_change (λ held. l.values) (take l.attribute-index l.attributes) l.kind
