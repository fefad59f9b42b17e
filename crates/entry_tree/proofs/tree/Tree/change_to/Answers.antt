-- The entry that is put alone is what its identity has afterwards.
use Rattle.entry_tree.proofs.Latest.{touched_alone}
use Rattle.entry_tree.proofs.tree.Tree.change_to.Goals as goal

pub returns-clause-exact : goal.returns-clause-exact
returns-clause-exact c =
    touched_alone c.args.self.now c.args.entry.now c.new-entry_changes.result c.push_difference.new.self _ c.get.ensures.ascends
    c.new-entry_changes.ensures c.get.ensures.value c.in_ok-push_difference.ensures.ok
