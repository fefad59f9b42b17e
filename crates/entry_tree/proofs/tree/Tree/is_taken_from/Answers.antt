-- Another identity stands at the path key of the new name, or the name is too long.
use Rattle.std.proofs.Common.{◌≡◌, ◌∙◌, ap, sym}
use Rattle.std.specs.Map.{values_of}
use Rattle.entry_writes.specs.Codes.{is_taken_from}
use Rattle.entry_tree.proofs.Moving.{limited_is}
use Rattle.entry_tree.proofs.Taking.{taken_by_index, taken_by_none}
use Rattle.entry_tree.proofs.tree.Tree.is_taken_from.Goals as goal

pub returns-in-Some : goal.returns-in-Some
returns-in-Some c = λ new is.
    let es = values_of c.self.inside.entries in
    let name = c.in-Some.name in
    let same : name ≡ new = limited_is new name (sym c.in-Some.is ∙ is) in
    c.has_other.ensures
    ∙ taken_by_index name es c.self.inside.names c.path.result.now c.self.invariant.directory.ascends c.self.invariant.index c.path.ensures.sound c.path.ensures.value c.args.top.now.uuid
    ∙ (λ i. is_taken_from c.args.top.now (c.self.view_is i) (same i))

pub returns-in-None : goal.returns-in-None
returns-in-None c = λ new is.
    let es = values_of c.self.inside.entries in
    taken_by_none new c.args.top.now.uuid es c.self.inside.names c.self.invariant.directory.ascends c.self.invariant.index (sym is ∙ c.in-None.is)
    ∙ ap (λ xs. is_taken_from c.args.top.now xs new) c.self.view_is
