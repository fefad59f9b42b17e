-- No entry has the type but as its whole RDN, so that the value is that of one name.
use Rattle.std.proofs.Common.{◌≡◌, ◌∙◌, Some, ap, refl, sym, subst}
use Rattle.std.specs.Map.{values_of}
use Rattle.schema_rules.specs.Schema.{type_named}
use Rattle.ldap_filter.specs.FilterTree.{equal}
use Rattle.entry_tree.specs.Pinned.{Pins, strays_in}
use Rattle.entry_tree.proofs.Pinning.{pair_here, pinned_by_equality}
use Rattle.entry_tree.proofs.tree.Tree.pinned_by_value.Goals as goal

pub returns-in_ok-path_below-in-Some-2 : goal.returns-in_ok-path_below-in-Some-2
returns-in_ok-path_below-in-Some-2 c =
    let es = values_of c.self.inside.entries in
    let base = c.args.base.now in
    let name = c.args.name.now in
    let value = c.args.value.now in
    let kind = c.in-Some.kind in
    let pair = c.in-Some-2.pair in
    let path = c.in_ok-path_below-in-Some-2.field-0.items in
    let made = pair_here c.in_ok-pair.field-0 pair kind c.as_slice-2.result.now c.in-Some-2.is c.in_ok-pair.ensures.value in
    let named : type_named name ≡ Some pair.kind = ap type_named (sym c.as_slice.ensures) ∙ sym c.in-Some.ensures ∙ ap Some (sym made.0) in
    let none : strays_in kind es ≡ 0 = sym (c.self.invariant.counted kind (c.if-not-has_none.ensures.known refl)) ∙ c.if-not-has_none.ensures.none refl in
    subst (λ xs. Pins base (equal name value) xs path) c.self.view_is
    (pinned_by_equality es base name value pair path named (made.1 ∙ c.as_slice-2.ensures) (ap (λ k. strays_in k es) made.0 ∙ none) c.in_ok-path_below-in-Some-2.ensures)
