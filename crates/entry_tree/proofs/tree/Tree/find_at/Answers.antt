-- The least identity at the path key of the name is that of the entry, or none is there.
use Rattle.std.proofs.Common.{Some, None, ap, sym, ◌∙◌}
use Rattle.std.specs.Map.{values_of}
use Rattle.entry_writes.specs.State.{entry_at, entry_named}
use Rattle.entry_tree.proofs.Finding.{named_by_index}
use Rattle.entry_tree.proofs.tree.Tree.find_at.Goals as goal

pub returns-in-Some : goal.returns-in-Some
returns-in-Some c = λ name has is.
    let es = values_of c.self.inside.entries in
    let names = c.self.inside.names in
    let uuid = c.in-Some.uuid in
    c.get.ensures.value
    ∙ ap (λ xs. entry_at xs uuid) (sym c.self.view_is)
    ∙ sym (named_by_index name es names c.args.path.now (Some uuid) c.self.invariant.directory.ascends c.self.invariant.index has is c.in-Some.ensures)
    ∙ ap (λ xs. entry_named xs name) c.self.view_is

pub returns-in-None : goal.returns-in-None
returns-in-None c = λ name has is.
    let es = values_of c.self.inside.entries in
    let names = c.self.inside.names in
    sym (named_by_index name es names c.args.path.now None c.self.invariant.directory.ascends c.self.invariant.index has is c.in-None.ensures)
    ∙ ap (λ xs. entry_named xs name) c.self.view_is
