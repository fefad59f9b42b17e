use Rattle.std.proofs.Common.{◌≡◌, take, true}
use Rattle.std.specs.List.{list_all}
use Rattle.entry_writes.specs.Edits.{has_pair_value}
use Rattle.entry_writes.proofs.changing.has_own_pairs.Given as goal

-- the value of each pair so far is there
abbrev pub invariant-loop-pair : goal.invariant-loop-pair
invariant-loop-pair l = list_all (has_pair_value l.attributes) (take l.pair-index l.pair-items) ≡ true
