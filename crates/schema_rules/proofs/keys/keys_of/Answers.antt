-- One more value gives its key, or nothing where it has none.
use Rattle.std.proofs.Common.{◌≡◌, ◌∷◌, [], ◌++◌, Some, None, ap, sym, ◌∙◌}
use Rattle.schema_rules.specs.Keys.{key_of}
use Rattle.schema_rules.proofs.Lists.{filter_map_some, filter_map_none}
use Rattle.schema_rules.proofs.keys.keys_of.Goals as goal
use Rattle.schema_rules.proofs.keys.keys_of.Goals.{in-Some+in_ok-push, in_default}

pub loop-value-preserved : goal.loop-value-preserved
loop-value-preserved c =
    let known : c.in_ok-key.field-0 ≡ key_of c.args.kind c.value-item.result = c.in_ok-key.ensures ∙ ap (key_of c.args.kind) c.as_slice.ensures in
    elim c.match-branch-3.branch [
      | in-Some+in_ok-push w ↦
          let has : key_of c.args.kind c.value-item.result ≡ Some w.in-Some.key = cc in
          let more = filter_map_some (key_of c.args.kind) c.args.values.now _ _ _ c.loop-value-test.true c.value-item.is has in
          ap (λ v. v.items) w.keys-is ∙ w.in_ok-push.ensures.items ∙ ap (λ xs. xs ++ w.in-Some.key ∷ []) c.loop-value.invariant ∙ sym more
      | in_default w ↦
          let has : key_of c.args.kind c.value-item.result ≡ None = cc in
          let more = filter_map_none (key_of c.args.kind) c.args.values.now _ _ c.loop-value-test.true c.value-item.is has in
          ap (λ v. v.items) w.keys-is ∙ c.loop-value.invariant ∙ sym more
    ]
