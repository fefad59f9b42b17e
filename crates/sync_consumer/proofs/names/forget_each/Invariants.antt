use Rattle.std.proofs.Common.{◌≤◌, length, drop}
use Rattle.sync_consumer.specs.Holding.{stays, Notes}
use Rattle.sync_consumer.specs.Staging.{changes_in}
use Rattle.sync_consumer.proofs.names.forget_each.Given as goal

-- the names of which a change from this one on is are taken away, but for those that stay
abbrev pub invariant-loop-left : goal.invariant-loop-left
invariant-loop-left l = record {
  within : l.left ≤ length l.changes;
  notes : Notes l.names (stays l.held (changes_in (drop l.left l.changes)));
}

abbrev pub decreases-loop-left : goal.decreases-loop-left
decreases-loop-left l = l.left
