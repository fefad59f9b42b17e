-- The entries of the identities within the path key of the name.
use Rattle.std.proofs.Common.{ap, sym, ◌∙◌}
use Rattle.std.specs.List.{filter, filter_map}
use Rattle.std.specs.Map.{values_of}
use Rattle.dn_names.specs.Names.{is_at_or_below}
use Rattle.entry_writes.specs.declared.entry.Entry.{Entry}
use Rattle.entry_writes.specs.State.{entry_at}
use Rattle.entry_tree.proofs.Within.{below_is_within}
use Rattle.entry_tree.proofs.tree.Tree.at_or_below.Goals as goal

pub returns : goal.returns
returns c =
    let es = values_of c.self.inside.entries in
    let name = c.args.dn.now in
    let is = (λ i. filter_map (entry_at (sym c.self.view_is i)) ((c.deref.ensures.value ∙ c.in_ok-uuids.ensures) i))
    ∙ below_is_within name es c.self.inside.names c.path.result.now c.self.invariant.directory.ascends c.self.invariant.index c.path.ensures.sound c.path.ensures.value c.len.ensures.ordered
    ∙ ap (filter (λ (e : Entry). is_at_or_below e.dn name)) c.self.view_is in
    rw is at c.entries_of.ensures
