use Rattle.std.proofs.Common.{◌≡◌, take, false}
use Rattle.std.specs.List.{list_any}
use Rattle.entry_writes.specs.Edits.{holds_key}
use Rattle.entry_writes.proofs.changing.has_pair_value.Given as goal

-- none of the attributes so far holds the key
abbrev pub invariant-loop-attribute : goal.invariant-loop-attribute
invariant-loop-attribute l = list_any (holds_key l.pair.kind l.key) (take l.attribute-index l.attributes) ≡ false
