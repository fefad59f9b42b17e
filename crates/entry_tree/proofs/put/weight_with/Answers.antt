-- What the changes so far and the next take away is no more than there was, and what they bring no more than may be.
use Rattle.std.proofs.Common.{arith}
use Rattle.entry_writes.specs.declared.touched.EntryChange.{EntryChange}
use Rattle.entry_tree.proofs.Weighing.{side_more, side_more_le}
use Rattle.entry_tree.proofs.put.weight_with.Goals as goal

pub overflow_sub-weight : goal.overflow_sub-weight
overflow_sub-weight c =
    let taken = side_more_le (λ (x : EntryChange). x.before) c.args.changes.now c.loop-change.change-index c.change-item.result c.loop-change-test.true c.change-item.is in
    omega (arith, taken, c.requires.before, c.loop-change.invariant, c.found_weight-weight.ensures)

pub overflow_add-weight : goal.overflow_add-weight
overflow_add-weight c =
    let brought = side_more_le (λ (x : EntryChange). x.after) c.args.changes.now c.loop-change.change-index c.change-item.result c.loop-change-test.true c.change-item.is in
    omega (arith, brought, c.requires.total, c.requires.after, c.loop-change.invariant, c.found_weight-weight-in-loop-change.ensures)

pub loop-change-preserved : goal.loop-change-preserved
loop-change-preserved c =
    let taken = side_more (λ (x : EntryChange). x.before) c.args.changes.now c.loop-change.change-index c.change-item.result c.loop-change-test.true c.change-item.is in
    let brought = side_more (λ (x : EntryChange). x.after) c.args.changes.now c.loop-change.change-index c.change-item.result c.loop-change-test.true c.change-item.is in
    let taken_le = side_more_le (λ (x : EntryChange). x.before) c.args.changes.now c.loop-change.change-index c.change-item.result c.loop-change-test.true c.change-item.is in
    let brought_le = side_more_le (λ (x : EntryChange). x.after) c.args.changes.now c.loop-change.change-index c.change-item.result c.loop-change-test.true c.change-item.is in
    omega (arith, taken, brought, taken_le, brought_le, c.requires.total, c.requires.before, c.requires.after, c.loop-change.invariant, c.found_weight-weight.ensures, c.found_weight-weight-in-loop-change.ensures)
