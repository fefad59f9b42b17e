use Rattle.std.proofs.Common.{◌≡◌, ◌≤◌, length, drop}
use Rattle.sync_model.specs.Copy.{effected}
use Rattle.sync_consumer.specs.Staging.{changes_in}
use Rattle.sync_consumer.proofs.weighed.entries_after.Given as goal

-- the changes from this one on are in effect
abbrev pub invariant-loop-left : goal.invariant-loop-left
invariant-loop-left l = record {
  within : l.left ≤ length l.changes;
  effected : l.after ≡ effected l.held (changes_in (drop l.left l.changes));
}

abbrev pub decreases-loop-left : goal.decreases-loop-left
decreases-loop-left l = l.left
