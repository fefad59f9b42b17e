use Rattle.std.proofs.Common.{◌≡◌, take, false}
use Rattle.std.specs.List.{list_any}
use Rattle.entry_writes.specs.Edits.{has_key}
use Rattle.entry_writes.proofs.changing.has_keyed.Given as goal

-- none of the values so far has the key
abbrev pub invariant-loop-value : goal.invariant-loop-value
invariant-loop-value l = list_any (has_key l.kind l.key) (take l.value-index l.values) ≡ false
