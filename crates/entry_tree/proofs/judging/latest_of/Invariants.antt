use Rattle.std.proofs.Common.{◌≡◌, ℕ, reverse, take}
use Rattle.std.specs.BTreeMap as btree
use Rattle.std.specs.Option.{option_copied}
use Rattle.std.specs.Ordering.{nat_cmp}
use Rattle.entry_writes.specs.State.{entry_at}
use Rattle.entry_tree.proofs.judging.latest_of.Given as goal

-- the last of the entries so far is at each identity
abbrev pub invariant-loop-entry : goal.invariant-loop-entry
invariant-loop-entry l = (uuid : ℕ) → option_copied (btree.get nat_cmp l.latest uuid) ≡ entry_at (reverse (take l.entry-index l.puts)) uuid
