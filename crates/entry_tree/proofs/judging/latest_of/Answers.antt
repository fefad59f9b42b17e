-- One more entry, in the place of an earlier one of its identity.
use Rattle.std.proofs.Common.{◌∙◌, ap, reverse, take_all}
use Rattle.entry_writes.specs.State.{entry_at}
use Rattle.entry_tree.proofs.Latest.{latest_more}
use Rattle.entry_tree.proofs.judging.latest_of.Goals as goal

pub loop-entry-preserved : goal.loop-entry-preserved
loop-entry-preserved c =
    latest_more c.loop-entry.latest c.insert.new.self c.args.puts.now c.loop-entry.entry-index _ c.loop-entry-test.true c.entry-item.is
    c.in_ok-insert.ensures.updates.0 c.loop-entry.invariant

pub returns : goal.returns
returns c = λ uuid.
    c.loop-entry.invariant uuid ∙ ap (λ puts. entry_at (reverse puts) uuid) (take_all c.loop-entry.entry-index c.args.puts.now c.loop-entry-test.false)
