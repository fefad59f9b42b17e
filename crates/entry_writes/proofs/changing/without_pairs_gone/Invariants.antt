use Rattle.std.proofs.Common.{◌≡◌, fold, take}
use Rattle.entry_writes.specs.Edits.{without_pair, pairs_gone}
use Rattle.entry_writes.proofs.changing.without_pairs_gone.Given as goal

-- the values of the pairs so far that are gone are removed
abbrev pub invariant-loop-pair : goal.invariant-loop-pair
invariant-loop-pair l = l.after ≡ fold without_pair l.fn.attrs (pairs_gone (take l.pair-index l.old) l.new)
