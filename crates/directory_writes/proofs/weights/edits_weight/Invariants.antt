use Rattle.std.proofs.Common.{◌≡◌, ◌-◌, ◌^◌, min, take}
use Rattle.directory_writes.specs.Weights as spec
use Rattle.directory_writes.proofs.weights.edits_weight.Given as goal

-- the edits so far are weighed
abbrev pub invariant-loop-edit : goal.invariant-loop-edit
invariant-loop-edit l = l.total ≡ min (spec.edits_weight (take l.edit-index l.edits)) (2 ^ 64 - 1)
