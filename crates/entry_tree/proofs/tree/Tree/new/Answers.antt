-- A tree without entries.
use Rattle.entry_tree.proofs.Parts.{tree_none}
use Rattle.entry_tree.proofs.tree.Tree.new.Goals as goal

pub invariant_of-result : goal.invariant_of-result
invariant_of-result c = tree_none c.new.result c.new-2.result c.no_strays.result c.new.ensures c.new-2.ensures c.no_strays.ensures
