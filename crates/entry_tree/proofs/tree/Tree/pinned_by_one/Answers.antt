-- One part pins what the `and` does.
use Rattle.ldap_filter.specs.FilterTree.{tree_of}
use Rattle.entry_tree.proofs.Pinning.{found_here, pinned_by_part}
use Rattle.entry_tree.proofs.tree.Tree.pinned_by_one.Goals as goal

pub returns-in-Some : goal.returns-in-Some
returns-in-Some c =
    let part = c.part-item.result in
    pinned_by_part c.args.base.now c.args.parts.now c.loop-part.part-index part c.args.self.now c.in-Some.path.items c.loop-part-test.true c.part-item.is
    (found_here c.args.base.now (tree_of part) c.args.self.now c.in_ok-path.field-0 c.in-Some.path c.in-Some.is c.in_ok-path.ensures)
