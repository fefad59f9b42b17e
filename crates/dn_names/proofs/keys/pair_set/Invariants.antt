use Rattle.std.proofs.Common.{◌≡◌, take, map}
use Rattle.dn_names.specs.Keys as spec
use Rattle.dn_names.proofs.keys.pair_set.Given as goal

-- the set of the pairs so far
abbrev pub invariant-loop-pair : goal.invariant-loop-pair
invariant-loop-pair l = map (λ mark. mark.items) l.set.keys ≡ spec.pair_set (take l.pair-index l.pairs)
