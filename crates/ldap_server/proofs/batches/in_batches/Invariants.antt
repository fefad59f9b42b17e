use Rattle.std.proofs.Common.{◌≡◌, ◌≤◌, ◌++◌, drop, length, reverse}
use Rattle.std.specs.List.{flat_map}
use Rattle.ldap_server.proofs.InBatches.{entries_in}
use Rattle.ldap_server.proofs.batches.in_batches.Given as goal

-- the entries from the place on are those that are left from there on, and then those of the batches, of which the last is the first
abbrev pub invariant-loop-left : goal.invariant-loop-left
invariant-loop-left l = record {
  within : l.place ≤ length l.left.items;
  all : drop l.place l.fn.entries.items ≡ drop l.place l.left.items ++ flat_map entries_in (reverse l.batches.items);
}

abbrev pub decreases-loop-left : goal.decreases-loop-left
decreases-loop-left l = length l.left.items
