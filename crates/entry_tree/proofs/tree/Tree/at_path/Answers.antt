-- The entries of the identities at the path key.
use Rattle.std.proofs.Common.{◌∙◌, ap, sym}
use Rattle.std.specs.List.{filter, filter_map}
use Rattle.std.specs.Map.{values_of}
use Rattle.entry_writes.specs.State.{entry_at}
use Rattle.entry_tree.specs.NameIndex.{has_path_key}
use Rattle.entry_tree.proofs.Taking.{at_path_is}
use Rattle.entry_tree.proofs.tree.Tree.at_path.Goals as goal

pub returns : goal.returns
returns c =
    let es = values_of c.self.inside.entries in
    let path = c.args.path.now in
    let is = (λ i. filter_map (entry_at (sym c.self.view_is i)) ((c.deref.ensures.value ∙ c.in_ok-uuids.ensures) i))
    ∙ at_path_is path es c.self.inside.names c.self.invariant.directory.ascends c.self.invariant.index
    ∙ ap (filter (has_path_key path)) c.self.view_is in
    rw is at c.entries_of.ensures
