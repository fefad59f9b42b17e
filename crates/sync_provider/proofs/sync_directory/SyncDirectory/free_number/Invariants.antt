use Rattle.std.proofs.Common.{◌≡◌, ◌-◌, ◌≤◌}
use Rattle.std.specs.List.{find}
use Rattle.sync_provider.specs.Accepting.{is_free, numbers_from, free_number}
use Rattle.sync_provider.proofs.sync_directory.SyncDirectory.free_number.Given as goal

-- the first free number is among those from here on
abbrev pub invariant-loop-number : goal.invariant-loop-number
invariant-loop-number l = record {
  free : free_number l.self.searches ≡ find (is_free l.self.searches) (numbers_from l.number (65 - l.number));
  first : 1 ≤ l.number;
}
