-- One more change is noted.
use Rattle.std.proofs.Common.{◌&&◌, not, nat_eq, subst}
use Rattle.std.proofs.lemmas.List.Elements.{All-more}
use Rattle.entry_writes.specs.declared.touched.EntryChange.{EntryChange}
use Rattle.entry_tree.specs.NameIndex.{stands_at, has_path, BringsPathKey}
use Rattle.entry_tree.proofs.NameChanges.{more_came}
use Rattle.entry_tree.proofs.reindex.note_each.Goals as goal

pub loop-change-preserved : goal.loop-change-preserved
loop-change-preserved c =
    let change = c.change-item.result in
    let i = c.loop-change.change-index in
    record {
      noted = λ path uuid.
          more_came (λ (x : EntryChange). nat_eq uuid x.uuid && (has_path path x.after && not (has_path path x.before))) c.args.changes.now i change
          (stands_at c.arrive.new.names path uuid) (stands_at c.loop-change.names path uuid) (stands_at c.args.names.now path uuid)
          c.loop-change-test.true c.change-item.is (c.in_ok-arrive.ensures.noted path uuid) (c.loop-change.invariant.noted path uuid);
      placed = All-more BringsPathKey c.args.changes.now i change c.loop-change-test.true c.loop-change.invariant.placed (subst BringsPathKey c.change-item.is c.arrive.ensures.placed);
      some = c.in_ok-arrive.ensures.some;
    }
