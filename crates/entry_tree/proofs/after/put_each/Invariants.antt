use Rattle.std.proofs.Common.{◌≡◌, true, map, take}
use Rattle.entry_writes.specs.State.{ascends}
use Rattle.entry_tree.proofs.Committing.{put_all}
use Rattle.entry_tree.proofs.after.put_each.Given as goal

-- the entries so far are in their places
abbrev pub invariant-loop-entry : goal.invariant-loop-entry
invariant-loop-entry l = record {
  ascends : ascends (map (λ e. e.now) l.entries.items) ≡ true;
  put : map (λ e. e.now) l.entries.items ≡ put_all (map (λ e. e.now) l.initial.entries.items) (take l.entry-index l.puts);
}
