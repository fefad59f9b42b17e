use Rattle.std.proofs.Common.{◌≡◌, true, map, take}
use Rattle.std.specs.List.{list_all}
use Rattle.entry_tree.specs.Judging.{has_free_name}
use Rattle.entry_tree.proofs.tree.Tree.have_free_names.Given as goal

-- the names of the entries so far are free
abbrev pub invariant-loop-entry : goal.invariant-loop-entry
invariant-loop-entry l = list_all (has_free_name l.self l.changes) (map (λ e. e.now) (take l.entry-index l.put)) ≡ true
