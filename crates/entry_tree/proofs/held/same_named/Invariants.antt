use Rattle.std.proofs.Common.{◌≡◌, map, reverse}
use Rattle.std.specs.BTreeMap.{get}
use Rattle.std.specs.Cmp.Lexicographic.{slice_cmp}
use Rattle.std.specs.Ordering.{nat_cmp}
use Rattle.entry_writes.specs.State.{same_named}
use Rattle.entry_tree.proofs.Naming.{Notes}
use Rattle.entry_tree.proofs.held.same_named.Given as goal

-- the last entries are noted by their names, with the first pair among them
abbrev pub invariant-loop-entry : goal.invariant-loop-entry
invariant-loop-entry l = record {
  pair : l.pair ≡ same_named (reverse (map (λ e. e.now.now) l.yielded));
  notes : Notes (λ key. key.items) (get (λ one other. slice_cmp nat_cmp one.items other.items) l.names) (reverse (map (λ e. e.now.now) l.yielded));
}
