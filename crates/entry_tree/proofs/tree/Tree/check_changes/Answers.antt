-- Changes that are clear leave entries that may be held.
use Rattle.entry_writes.specs.Effects.{committed}
use Rattle.entry_tree.proofs.Clear.{held_clear}
use Rattle.entry_tree.proofs.Committing.{ascends_committed}
use Rattle.entry_tree.proofs.tree.Tree.check_changes.Goals as goal

pub is_clear-requires : goal.is_clear-requires
is_clear-requires c = c.requires.unique_names c.if-unique_names.true

pub returns-then-branch-clause-ok : goal.returns-then-branch-clause-ok
returns-then-branch-clause-ok c =
    let es = c.args.self.now in
    let puts = c.args.puts.now in
    let drops = c.args.drops.now in
    let asc = c.in_ok-is_clear.ensures.ascends in
    held_clear es (committed es puts drops) c.args.changes.now asc (ascends_committed es puts drops asc)
    (c.requires.unique_names c.if-unique_names.true) c.requires.exact (c.in_ok-is_clear.ensures.clear c.if-branch.true)
