-- An identity stands at the path key of the name where an entry has the name.
use Rattle.std.proofs.Common.{ap, ◌∙◌}
use Rattle.std.specs.Map.{values_of}
use Rattle.entry_writes.specs.State.{has_name}
use Rattle.entry_tree.proofs.Finding.{has_name_by_index}
use Rattle.entry_tree.proofs.tree.Tree.has_name.Goals as goal

pub returns : goal.returns
returns c =
    let name = c.args.dn.now in
    c.is_some.ensures
    ∙ has_name_by_index name (values_of c.self.inside.entries) c.self.inside.names c.path.result.now c.first_at.result c.self.invariant.directory.ascends c.self.invariant.index
    c.path.ensures.sound c.path.ensures.value c.first_at.ensures
    ∙ ap (λ xs. has_name xs name) c.self.view_is
