-- One more identity in the set.
use Rattle.std.proofs.Common.{◌∙◌, get_or, ap, sym}
use Rattle.std.specs.BTreeSet.{insert_key}
use Rattle.std.specs.Ordering.{nat_cmp}
use Rattle.entry_tree.proofs.Rising.{joined_more}
use Rattle.entry_tree.proofs.after.add_each.Goals as goal

pub loop-uuid-preserved : goal.loop-uuid-preserved
loop-uuid-preserved c =
    let i = c.loop-uuid.uuid-index in
    let uuids = c.args.uuids.now in
    c.in_ok-insert.ensures.keys
    ∙ ap (λ keys. insert_key nat_cmp keys (get_or uuids i 0)) c.loop-uuid.invariant
    ∙ sym (joined_more c.args.set.now.keys uuids i c.loop-uuid-test.true)
