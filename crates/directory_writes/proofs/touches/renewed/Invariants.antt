use Rattle.std.proofs.Common.{◌≡◌, take}
use Rattle.directory_writes.specs.Touches.{renewed}
use Rattle.directory_writes.proofs.touches.renewed.Given as goal

-- the numbers of the entries so far are renewed
abbrev pub invariant-loop-entry_change : goal.invariant-loop-entry_change
invariant-loop-entry_change l = l.numbers ≡ renewed l.commits l.number l.fn.before (take l.entry_change-index l.touched)
