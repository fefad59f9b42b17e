use Rattle.std.proofs.Common.{◌≡◌, ◌++◌, length}
use Rattle.entry_tree.specs.IdentityOrder.{above}
use Rattle.entry_tree.specs.Touched.{identities}
use Rattle.entry_tree.proofs.tree.Tree.identities_after.Given as goal

-- those so far, followed by the ones above the last of them, are all
abbrev pub invariant-loop : goal.invariant-loop
invariant-loop l = record {
  counted : length l.uuids.items ≡ l.counter;
  all : l.uuids.items ++ above l.last (identities l.self) ≡ above l.fn.after (identities l.self);
}
