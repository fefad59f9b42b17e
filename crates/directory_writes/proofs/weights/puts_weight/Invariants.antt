use Rattle.std.proofs.Common.{◌≡◌, ◌-◌, ◌^◌, min, take}
use Rattle.directory_writes.specs.Weights as spec
use Rattle.directory_writes.proofs.weights.puts_weight.Given as goal

-- the entries so far are weighed
abbrev pub invariant-loop-entry : goal.invariant-loop-entry
invariant-loop-entry l = l.total ≡ min (spec.puts_weight (take l.entry-index l.puts)) (2 ^ 64 - 1)
