-- One more change.
use Rattle.std.proofs.Common.{◌∙◌, [], ◌∷◌, ap, sym}
use Rattle.std.specs.Prelude.{fold}
use Rattle.entry_writes.specs.Touched.{drops_of}
use Rattle.entry_tree.proofs.ByIdentity.{taken_out, dropped_more}
use Rattle.entry_tree.proofs.put.remove_each.Goals as goal

pub loop-change-preserved : goal.loop-change-preserved
loop-change-preserved c =
    let change = c.change-item.result in
    c.in_ok-remove_one.ensures.ok
    ∙ ap (λ held. fold taken_out held (drops_of (change ∷ []))) c.loop-change.invariant
    ∙ sym (dropped_more c.args.entries.now c.args.changes.now c.loop-change.change-index change c.loop-change-test.true c.change-item.is)
