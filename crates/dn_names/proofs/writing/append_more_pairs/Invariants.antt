use Rattle.std.proofs.Common.{◌≡◌, ◌++◌, drop}
use Rattle.dn_names.specs.Writing as spec
use Rattle.dn_names.proofs.writing.append_more_pairs.Given as goal

-- the pairs from here on are missing
abbrev pub invariant-loop-pair : goal.invariant-loop-pair
invariant-loop-pair l = l.text.items ++ spec.more_pairs_text (drop l.pair-index l.pairs) ≡ l.fn.text.items ++ spec.more_pairs_text l.pairs
