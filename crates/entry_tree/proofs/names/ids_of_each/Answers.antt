-- One more list.
use Rattle.std.proofs.Common.{◌∙◌, Bor, Vec, Global, ℕ, ap, sym}
use Rattle.entry_writes.specs.Touched.{joined}
use Rattle.entry_tree.proofs.Rising.{joined_each_more}
use Rattle.entry_tree.proofs.names.ids_of_each.Goals as goal

pub loop-ids-preserved : goal.loop-ids-preserved
loop-ids-preserved c =
    let ids = c.ids-item.result in
    c.in_ok-add_each.ensures
    ∙ ap (joined c.loop-ids.uuids.keys) c.as_slice.ensures.value
    ∙ ap (λ keys. joined keys ids.now.items) c.loop-ids.invariant
    ∙ sym (joined_each_more (λ (list : Bor (Vec ℕ Global)). list.now.items) c.args.lists.now c.loop-ids.ids-index ids c.loop-ids-test.true c.ids-item.is)
