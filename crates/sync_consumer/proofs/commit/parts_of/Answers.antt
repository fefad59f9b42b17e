-- One more change, and all.
use Rattle.std.proofs.Common.{◌++◌, ◌∙◌, take, take_all, add-one, ap, sym}
use Rattle.sync_model.specs.Copy.{puts_of, drops_of}
use Rattle.sync_consumer.specs.Staging.{changes_in, put_alone, dropped_alone}
use Rattle.sync_consumer.proofs.Turns.{puts_more, drops_more}
use Rattle.sync_consumer.proofs.commit.parts_of.Goals as goal

pub loop-change-preserved : goal.loop-change-preserved
loop-change-preserved c =
    let changes = c.args.changes.now in
    let i = c.loop-change.change-index in
    let s = c.change-item.result in
    let is = c.loop-change.invariant in
    record {
      puts = c.in_ok-note.ensures.puts
          ∙ ap (λ es. es ++ put_alone s.now) is.puts
          ∙ sym (ap (λ n. puts_of (changes_in (take n changes))) (add-one i) ∙ puts_more changes i s c.loop-change-test.true c.change-item.is);
      drops = c.in_ok-note.ensures.drops
          ∙ ap (λ us. us ++ dropped_alone s.now) is.drops
          ∙ sym (ap (λ n. drops_of (changes_in (take n changes))) (add-one i) ∙ drops_more changes i s c.loop-change-test.true c.change-item.is);
    }

pub returns-clause-puts : goal.returns-clause-puts
returns-clause-puts c =
    c.loop-change.invariant.puts
    ∙ ap (λ changes. puts_of (changes_in changes)) (take_all c.loop-change.change-index c.args.changes.now c.loop-change-test.false)

pub returns-clause-drops : goal.returns-clause-drops
returns-clause-drops c =
    c.loop-change.invariant.drops
    ∙ ap (λ changes. drops_of (changes_in changes)) (take_all c.loop-change.change-index c.args.changes.now c.loop-change-test.false)
