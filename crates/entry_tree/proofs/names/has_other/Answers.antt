-- Those that are found.
use Rattle.std.proofs.Common.{◌∙◌, nat_eq, not, ap, sym}
use Rattle.std.specs.List.{list_any}
use Rattle.entry_tree.proofs.NameKeys.{ids_found, ids_absent}
use Rattle.entry_tree.proofs.names.has_other.Goals as goal

pub returns-in-Some : goal.returns-in-Some
returns-in-Some c =
    c.others_than.ensures
    ∙ ap (list_any (λ id. not (nat_eq id c.args.uuid))) (c.deref.ensures.value ∙ ids_found c.args.names.now c.args.path.now c.in-Some.uuids.now c.in-Some.ensures)

pub returns-in-None : goal.returns-in-None
returns-in-None c = sym (ap (list_any (λ id. not (nat_eq id c.args.uuid))) (ids_absent c.args.names.now c.args.path.now (sym c.in-None.ensures)))
