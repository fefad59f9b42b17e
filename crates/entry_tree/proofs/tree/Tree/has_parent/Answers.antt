-- The parent is a name that an entry has.
use Rattle.std.proofs.Common.{◌∙◌, nat_eq, length, ap}
use Rattle.std.specs.Map.{values_of}
use Rattle.dn_names.specs.Names.{parent_of}
use Rattle.entry_writes.specs.State.{has_name}
use Rattle.entry_tree.proofs.Finding.{has_name_by_index, no_parent, parent_named}
use Rattle.entry_tree.proofs.NameKeys.{some_items, no_items}
use Rattle.entry_tree.proofs.tree.Tree.has_parent.Goals as goal

pub returns : goal.returns
returns c =
    let name = c.args.dn.now in
    let some = some_items name c.is_empty.result (c.is_empty.ensures ∙ ap (λ rdns. nat_eq (length rdns) 0) c.rdns.ensures.value) c.if-is_empty.false in
    c.is_some.ensures
    ∙ has_name_by_index (parent_of name) (values_of c.self.inside.entries) c.self.inside.names c.parent_path.result.now c.first_at.result c.self.invariant.directory.ascends c.self.invariant.index
    c.parent_path.ensures.sound c.parent_path.ensures.value c.first_at.ensures
    ∙ ap (λ xs. has_name xs (parent_of name)) c.self.view_is
    ∙ parent_named c.args.self.now name some

pub returns-then-is_empty : goal.returns-then-is_empty
returns-then-is_empty c =
    no_parent c.args.self.now c.args.dn.now (no_items c.args.dn.now c.is_empty.result (c.is_empty.ensures ∙ ap (λ rdns. nat_eq (length rdns) 0) c.rdns.ensures.value) c.if-is_empty.true)
