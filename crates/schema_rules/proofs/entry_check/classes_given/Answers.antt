-- One more attribute gives its classes where it is objectClass, and else nothing.
use Rattle.std.proofs.Common.{◌≡◌, true, false, codes, bytes_eq, ap, sym, ◌∙◌}
use Rattle.std.specs.List.{filter_map}
use Rattle.schema_rules.specs.Attributes.{is_named}
use Rattle.schema_rules.specs.Schema.{class_named}
use Rattle.schema_rules.specs.declared.attributes.Attribute.{Attribute}
use Rattle.schema_rules.proofs.Lists.{flat_map_filter_passes, flat_map_filter_fails}
use Rattle.schema_rules.proofs.entry_check.classes_given.Goals as goal
use Rattle.schema_rules.proofs.entry_check.classes_given.Goals.{then-eq+in_ok-push_classes, else-eq}

pub loop-attribute-preserved : goal.loop-attribute-preserved
loop-attribute-preserved c =
    let text = codes "objectClass" in
    let given = λ (a : Attribute). filter_map class_named a.values in
    let test : is_named text c.attribute-item.result ≡ c.eq.result = sym (c.eq.ensures ∙ ap (λ n. bytes_eq n text) c.name.ensures.value) in
    elim c.if-eq.branch [
      | then-eq+in_ok-push_classes w ↦
          let passes : is_named text c.attribute-item.result ≡ true = test ∙ w.if-eq.true in
          let more = flat_map_filter_passes given (is_named text) c.args.attributes.now _ _ c.loop-attribute-test.true c.attribute-item.is passes in
          ap (λ v. v.items) w.classes-is ∙ w.in_ok-push_classes.ensures ∙ cc (more, w.list.ensures)
      | else-eq w ↦
          let fails : is_named text c.attribute-item.result ≡ false = test ∙ w.if-eq.false in
          let more = flat_map_filter_fails given (is_named text) c.args.attributes.now _ _ c.loop-attribute-test.true c.attribute-item.is fails in
          ap (λ v. v.items) w.classes-is ∙ c.loop-attribute.invariant ∙ sym more
    ]
