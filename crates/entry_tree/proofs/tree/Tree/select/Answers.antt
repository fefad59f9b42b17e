-- Those of the entries that the search comes to which are wanted.
use Rattle.std.proofs.Common.{Bor, map, ap, ◌∙◌}
use Rattle.entry_writes.specs.declared.entry.Entry.{Entry}
use Rattle.entry_tree.specs.Selection.{search_of, select}
use Rattle.entry_tree.proofs.tree.Tree.select.Goals as goal

pub returns : goal.returns
returns c =
    let search = search_of c.args.spec.now in
    let read = ap (λ xs. select search (map (λ (e : Bor Entry). e.now) xs)) c.deref.ensures.value ∙ c.in_ok-entries.ensures in
    rw read at c.taken.ensures
