use Rattle.std.proofs.Common.{◌≡◌, map, take}
use Rattle.entry_tree.specs.Judging.{takes_of}
use Rattle.entry_tree.proofs.judging.taken_by.Given as goal

-- the entries that the changes so far remove or replace are there
abbrev pub invariant-loop-change : goal.invariant-loop-change
invariant-loop-change l = map (λ e. e.now) l.taken.items ≡ takes_of (take l.change-index l.changes)
