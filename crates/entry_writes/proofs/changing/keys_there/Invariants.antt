use Rattle.std.proofs.Common.{◌≡◌, take}
use Rattle.entry_writes.specs.Edits.{keys_there}
use Rattle.entry_writes.proofs.changing.keys_there.Given as goal

-- the keys so far are there
abbrev pub invariant-loop-attribute : goal.invariant-loop-attribute
invariant-loop-attribute l = l.keys.items ≡ keys_there (take l.attribute-index l.attributes) l.kind
