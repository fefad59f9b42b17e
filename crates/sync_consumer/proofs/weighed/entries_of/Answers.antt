-- One more change, and all.
use Rattle.std.proofs.Common.{◌++◌, ◌∙◌, take, take_all, add-one, ap, sym}
use Rattle.sync_model.specs.Copy.{puts_of}
use Rattle.sync_consumer.specs.Staging.{changes_in, put_alone}
use Rattle.sync_consumer.proofs.Turns.{puts_more}
use Rattle.sync_consumer.proofs.weighed.entries_of.Goals as goal

pub loop-change-preserved : goal.loop-change-preserved
loop-change-preserved c =
    let changes = c.args.changes.now in
    let i = c.loop-change.change-index in
    let s = c.change-item.result in
    c.in_ok-push_put.ensures
    ∙ ap (λ es. es ++ put_alone s.now) c.loop-change.invariant
    ∙ sym (ap (λ n. puts_of (changes_in (take n changes))) (add-one i) ∙ puts_more changes i s c.loop-change-test.true c.change-item.is)

pub returns : goal.returns
returns c =
    c.loop-change.invariant
    ∙ ap (λ changes. puts_of (changes_in changes)) (take_all c.loop-change.change-index c.args.changes.now c.loop-change-test.false)
