use Rattle.std.proofs.Common.{◌≡◌, map, not, take}
use Rattle.std.specs.List.{filter}
use Rattle.entry_writes.specs.Effects.{is_one_of}
use Rattle.entry_tree.proofs.after.kept.Given as goal

-- those of the entries so far that are not dropped are there
abbrev pub invariant-loop-entry : goal.invariant-loop-entry
invariant-loop-entry l = map (λ e. e.now) l.kept.items ≡ filter (λ e. not (is_one_of l.dropped.keys e)) (map (λ e. e.now) (take l.entry-index l.entries))
