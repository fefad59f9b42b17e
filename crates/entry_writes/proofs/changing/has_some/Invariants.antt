use Rattle.std.proofs.Common.{◌≡◌, take, false}
use Rattle.std.specs.List.{list_any}
use Rattle.entry_writes.specs.Edits.{matches}
use Rattle.entry_writes.proofs.changing.has_some.Given as goal

-- none of the values so far matches
abbrev pub invariant-loop-value : goal.invariant-loop-value
invariant-loop-value l = list_any (matches l.kind l.keys) (take l.value-index l.values) ≡ false
