-- One more entry in its place.
use Rattle.std.proofs.Common.{◌∙◌, Bor, List, ap, map, sym}
use Rattle.entry_writes.specs.declared.entry.Entry.{Entry}
use Rattle.entry_writes.specs.State.{ascends, put}
use Rattle.entry_tree.proofs.Committing.{put_more}
use Rattle.entry_tree.proofs.Putting.{ascends_put}
use Rattle.entry_tree.proofs.after.put_each.Goals as goal

pub loop-entry-preserved : goal.loop-entry-preserved
loop-entry-preserved c =
    let entry = c.entry-item.result in
    let before : List Entry = map (λ (e : Bor Entry). e.now) c.loop-entry.entries.items in
    let start : List Entry = map (λ (e : Bor Entry). e.now) c.args.entries.now.items in
    record {
      ascends = ap ascends c.in_ok-put_one.ensures ∙ ascends_put entry before c.loop-entry.invariant.ascends;
      put = c.in_ok-put_one.ensures ∙ ap (put entry) c.loop-entry.invariant.put
          ∙ sym (put_more start c.args.puts.now c.loop-entry.entry-index entry c.loop-entry-test.true c.entry-item.is);
    }
