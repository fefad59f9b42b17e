use Rattle.std.proofs.Common.{◌≡◌, map, take}
use Rattle.entry_tree.specs.Selection.{search_of, select}
use Rattle.entry_tree.proofs.tree.taken.Given as goal

-- those of the entries so far that are wanted are found
abbrev pub invariant-loop-entry : goal.invariant-loop-entry
invariant-loop-entry l = l.found ≡ select (search_of l.spec) (map (λ e. e.now) (take l.entry-index l.entries))
