-- The entry of a name is found by its path key.
use Rattle.entry_tree.proofs.tree.Tree.find.Goals as goal

pub returns : goal.returns
returns c = c.find_at.ensures c.args.dn.now c.path.ensures.sound c.path.ensures.value
