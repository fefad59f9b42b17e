use Rattle.std.proofs.Common.{◌≡◌, take}
use Rattle.sync_model.specs.Copy.{puts_of, drops_of}
use Rattle.sync_consumer.specs.Staging.{changes_in}
use Rattle.sync_consumer.proofs.commit.parts_of.Given as goal

-- the changes so far are reported
abbrev pub invariant-loop-change : goal.invariant-loop-change
invariant-loop-change l = record {
  puts : l.puts ≡ puts_of (changes_in (take l.change-index l.changes));
  drops : l.drops ≡ drops_of (changes_in (take l.change-index l.changes));
}
