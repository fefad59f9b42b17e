-- An entry is below the name where an identity stands at a longer path key.
use Rattle.std.proofs.Common.{ap, ◌∙◌}
use Rattle.std.specs.Map.{values_of}
use Rattle.entry_writes.specs.State.{has_below}
use Rattle.entry_tree.proofs.NameRanges.{below_by_index}
use Rattle.entry_tree.proofs.tree.Tree.has_below.Goals as goal

pub has_longer-requires : goal.has_longer-requires
has_longer-requires c = c.self.invariant.index.some

pub returns : goal.returns
returns c =
    let es = values_of c.self.inside.entries in
    let name = c.args.dn.now in
    below_by_index name es c.self.inside.names c.path.result.now c.has_longer.result c.self.invariant.directory.ascends c.self.invariant.index c.path.ensures.sound c.path.ensures.value c.has_longer.ensures
    ∙ ap (λ xs. has_below xs name) c.self.view_is
