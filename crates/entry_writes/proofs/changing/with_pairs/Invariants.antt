use Rattle.std.proofs.Common.{◌≡◌, fold, take}
use Rattle.entry_writes.specs.Edits.{with_pair}
use Rattle.entry_writes.proofs.changing.with_pairs.Given as goal

-- the values of the pairs so far are there
abbrev pub invariant-loop-pair : goal.invariant-loop-pair
invariant-loop-pair l = l.after ≡ fold with_pair l.attrs (take l.pair-index l.pairs)
