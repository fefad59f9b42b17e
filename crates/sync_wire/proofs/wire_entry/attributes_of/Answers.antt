use Rattle.std.proofs.Common.{◌≡◌, Some, None, ap, sym, ◌∙◌}
use Rattle.schema_rules.specs.Attributes.{with_values}
use Rattle.schema_rules.proofs.Joining.{IsAttributeList-with_values}
use Rattle.sync_wire.specs.WireEntry.{kept}
use Rattle.sync_wire.proofs.Keeping.{kept-filled, attributes_of-more, attributes_of-same}
use Rattle.sync_wire.proofs.wire_entry.attributes_of.Goals.{in-Some+in_ok-add_values, in_default}
use Rattle.sync_wire.proofs.wire_entry.attributes_of.Goals as goal

pub loop-raw-preserved : goal.loop-raw-preserved
loop-raw-preserved c =
    let raws = c.args.raws.now in
    let raw = c.raw-item.result in
    let items = c.loop-raw.items.items in
    elim c.match-branch-3.branch [
      | in-Some+in_ok-add_values w ↦
          let a = w.in-Some.attribute in
          let some : kept raw ≡ Some a = sym c.in_ok-attribute.ensures ∙ w.in-Some.is in
          let grown : c.match-branch-3.items.items ≡ with_values items a.kind a.values =
          ap (λ v. v.items) w.items-is ∙ w.in_ok-add_values.ensures.ok in
          record {
            joined = grown ∙ ap (λ xs. with_values xs a.kind a.values) c.loop-raw.invariant.joined
                ∙ sym (attributes_of-more raws _ raw a c.loop-raw-test.true c.raw-item.is some);
            list = rw grown (IsAttributeList-with_values items a.kind a.values c.loop-raw.invariant.list (kept-filled raw a some));
          }
      | in_default w ↦
          let none : kept raw ≡ None = sym c.in_ok-attribute.ensures ∙ w.in_default.is in
          let same : c.match-branch-3.items.items ≡ items = ap (λ v. v.items) w.items-is in
          record {
            joined = same ∙ c.loop-raw.invariant.joined ∙ sym (attributes_of-same raws _ raw c.loop-raw-test.true c.raw-item.is none);
            list = rw same c.loop-raw.invariant.list;
          }
    ]
