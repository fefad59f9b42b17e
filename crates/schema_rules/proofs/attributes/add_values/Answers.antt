-- The values go after those of the type at its place, or last.
use Rattle.std.proofs.Common.{◌≡◌, Some, None, nat_eq, ◌++◌, set, ap, sym, ◌∙◌}
use Rattle.std.specs.List.{position}
use Rattle.std.proofs.lemmas.Result.{IfOk-weaker}
use Rattle.schema_rules.specs.declared.attributes.Attribute.{Attribute}
use Rattle.schema_rules.proofs.Joining.{with_values-found, with_values-absent}
use Rattle.schema_rules.proofs.attributes.add_values.Goals as goal

pub returns-in-Some-clause-ok : goal.returns-in-Some-clause-ok
returns-in-Some-clause-ok c =
    let items = c.args.attributes.now.items in
    let held = c.index_mut.result.now in
    let of_kind = λ (a : Attribute). nat_eq a.kind c.args.kind in
    let found : position of_kind items ≡ Some c.in-Some.place = sym (c.in-Some.ensures ∙ ap (position of_kind) c.deref.ensures.value) in
    let joined = with_values-found items c.args.kind c.args.values c.in-Some.place held found in
    IfOk-weaker c.append.result _ _ (λ _ grown.
    ap (λ values. set items c.in-Some.place (record { kind = held.kind; values = values })) grown
    ∙ ap (λ (a : Attribute). set items c.in-Some.place (record { kind = a.kind; values = a.values ++ c.args.values })) c.index_mut.ensures.value
    ∙ sym joined) c.append.ensures.ok

pub returns-clause-ok : goal.returns-clause-ok
returns-clause-ok c =
    let items = c.args.attributes.now.items in
    let of_kind = λ (a : Attribute). nat_eq a.kind c.args.kind in
    let absent : position of_kind items ≡ None = sym (sym c.in_default.is ∙ c.place_of.ensures ∙ ap (position of_kind) c.deref.ensures.value) in
    c.in_ok-push.ensures.items ∙ sym (with_values-absent items c.args.kind c.args.values absent)
