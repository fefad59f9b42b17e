-- One more change.
use Rattle.std.proofs.Common.{◌&&◌, not, nat_eq}
use Rattle.entry_writes.specs.declared.touched.EntryChange.{EntryChange}
use Rattle.entry_tree.specs.NameIndex.{stands_at, has_path}
use Rattle.entry_tree.proofs.NameChanges.{more_gone}
use Rattle.entry_tree.proofs.reindex.forget_each.Goals as goal

pub loop-change-preserved : goal.loop-change-preserved
loop-change-preserved c =
    let change = c.change-item.result in
    record {
      gone = λ path uuid.
          more_gone (λ (x : EntryChange). nat_eq uuid x.uuid && (has_path path x.before && not (has_path path x.after))) c.args.changes.now c.loop-change.change-index change
          (stands_at c.leave.new.names path uuid) (stands_at c.loop-change.names path uuid) (stands_at c.args.names.now path uuid)
          c.loop-change-test.true c.change-item.is (c.in_ok-leave.ensures.forgotten path uuid) (c.loop-change.invariant.gone path uuid);
      some = c.in_ok-leave.ensures.some;
    }
