-- One more change.
use Rattle.std.proofs.Common.{◌∙◌, [], ◌∷◌, ap, sym}
use Rattle.std.specs.Prelude.{fold}
use Rattle.entry_writes.specs.Touched.{puts_of}
use Rattle.entry_tree.proofs.ByIdentity.{put_in, put_more_in}
use Rattle.entry_tree.proofs.put.put_each.Goals as goal

pub loop-change-preserved : goal.loop-change-preserved
loop-change-preserved c =
    let change = c.change-item.result in
    c.in_ok-put_one.ensures.ok
    ∙ ap (λ held. fold put_in held (puts_of (change ∷ []))) c.loop-change.invariant
    ∙ sym (put_more_in c.args.entries.now c.args.changes.now c.loop-change.change-index change c.loop-change-test.true c.change-item.is)
