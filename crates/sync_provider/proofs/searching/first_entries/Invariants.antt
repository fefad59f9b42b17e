use Rattle.std.proofs.Common.{◌≡◌, take}
use Rattle.sync_provider.proofs.searching.first_entries.Given as goal

-- the entries so far are given
abbrev pub invariant-loop-entry : goal.invariant-loop-entry
invariant-loop-entry l = l.first ≡ take l.entry-index l.front
