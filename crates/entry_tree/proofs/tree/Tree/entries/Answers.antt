-- The values of the map.
use Rattle.entry_tree.proofs.tree.Tree.entries.Goals as goal

pub returns : goal.returns
returns c = rw c.self.view_is at c.values.ensures
