use Rattle.std.proofs.Common.{◌≡◌, take, map}
use Rattle.entry_tree.proofs.Removed.{removed}
use Rattle.entry_tree.proofs.delete.removals.Given as goal

-- those so far are reported as removed
abbrev pub invariant-loop-entry : goal.invariant-loop-entry
invariant-loop-entry l = l.entry_changes ≡ map removed (map (λ e. e.now) (take l.entry-index l.entries))
