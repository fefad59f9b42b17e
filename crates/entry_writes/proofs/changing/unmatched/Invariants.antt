use Rattle.std.proofs.Common.{◌≡◌, take, filter, not}
use Rattle.entry_writes.specs.Edits.{matches}
use Rattle.entry_writes.proofs.changing.unmatched.Given as goal

-- those of the values so far that match none are there
abbrev pub invariant-loop-value : goal.invariant-loop-value
invariant-loop-value l = l.left ≡ filter (λ value. not (matches l.kind l.keys value)) (take l.value-index l.values)
