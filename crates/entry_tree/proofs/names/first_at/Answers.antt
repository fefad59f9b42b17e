-- The least of those that are found.
use Rattle.std.proofs.Common.{◌∙◌, None, sym, subst, refl}
use Rattle.entry_tree.specs.NameIndex.{IsLeast}
use Rattle.entry_tree.proofs.NameKeys.{ids_found, ids_absent}
use Rattle.entry_tree.proofs.names.first_at.Goals as goal

pub returns-in-Some : goal.returns-in-Some
returns-in-Some c =
    subst (λ us. IsLeast us c.least.result) (c.deref.ensures.value ∙ ids_found c.args.names.now c.args.path.now c.in-Some.uuids.now c.in-Some.ensures) c.least.ensures

pub returns-in-None : goal.returns-in-None
returns-in-None c = subst (λ us. IsLeast us None) (sym (ids_absent c.args.names.now c.args.path.now (sym c.in-None.ensures))) (λ number. refl)
