-- The place that is found by the identity.
use Rattle.std.proofs.Common.{rules, None, nat_eq, get_or, sym}
use Rattle.std.proofs.lemmas.Bool.{eq-eqb}
use Rattle.std.proofs.lemmas.Fn.{always_returns_same}
use Rattle.std.proofs.lemmas.List.Folds.{list_any_at}
use Rattle.entry_writes.specs.declared.touched.EntryChange.{EntryChange}
use Rattle.entry_tree.proofs.Searching.{same_where}
use Rattle.entry_tree.proofs.judging.is_changed.Goals as goal

pub returns-in-Ok : goal.returns-in-Ok
returns-in-Ok c = λ holds.
    let uuid = c.args.uuid in
    let changes = c.args.changes.now in
    let none : EntryChange = record { uuid = uuid; before = None; after = None } in
    let at = c.in-Ok.ensures.position (λ (e : EntryChange). e.uuid) (always_returns_same _ _ _ (λ a r f' k. search rules)) in
    list_any_at (λ (e : EntryChange). nat_eq uuid e.uuid) changes c.in-Ok.field-0 none c.in-Ok.ensures.bound
    (eq-eqb uuid (get_or changes c.in-Ok.field-0 none).uuid (sym (same_where (get_or changes c.in-Ok.field-0 none).uuid uuid (at none))))
