use Rattle.std.proofs.Common.{◌≡◌, take, true}
use Rattle.std.specs.List.{list_all}
use Rattle.entry_writes.specs.Edits.{matches}
use Rattle.entry_writes.proofs.changing.has_each.Given as goal

-- each of the values so far matches
abbrev pub invariant-loop-value : goal.invariant-loop-value
invariant-loop-value l = list_all (matches l.kind l.keys) (take l.value-index l.values) ≡ true
