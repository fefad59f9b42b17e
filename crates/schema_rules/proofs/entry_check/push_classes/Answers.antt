-- One more value gives its class, or nothing where it names none.
use Rattle.std.proofs.Common.{◌≡◌, ◌∷◌, [], ◌++◌, Some, None, ap, sym, ◌∙◌, append_assoc}
use Rattle.schema_rules.specs.Schema.{class_named}
use Rattle.schema_rules.proofs.Lists.{filter_map_some, filter_map_none}
use Rattle.schema_rules.proofs.entry_check.push_classes.Goals as goal
use Rattle.schema_rules.proofs.entry_check.push_classes.Goals.{in-Some+in_ok-push, in_default}

pub loop-value-preserved : goal.loop-value-preserved
loop-value-preserved c =
    let before = c.args.classes.now.items in
    elim c.match-find.branch [
      | in-Some+in_ok-push w ↦
          let named : class_named c.value-item.result ≡ Some w.in-Some.class = cc in
          let more = filter_map_some class_named c.args.values.now _ _ _ c.loop-value-test.true c.value-item.is named in
          ap (λ v. v.items) w.classes-is ∙ w.in_ok-push.ensures.items ∙ ap (λ xs. xs ++ w.in-Some.class ∷ []) c.loop-value.invariant
          ∙ append_assoc before _ _ ∙ sym (ap (λ xs. before ++ xs) more)
      | in_default w ↦
          let named : class_named c.value-item.result ≡ None = cc in
          let more = filter_map_none class_named c.args.values.now _ _ c.loop-value-test.true c.value-item.is named in
          ap (λ v. v.items) w.classes-is ∙ c.loop-value.invariant ∙ sym (ap (λ xs. before ++ xs) more)
    ]
