use Rattle.std.proofs.Common.{◌≡◌, ◌<◌, ◌+◌, ℕ}
use Rattle.std.specs.Prelude.{slice_index}
use Rattle.entry_tree.proofs.strays.strays_with.Given as goal

-- the numbers so far are what was held, without what is gone and with what has come
abbrev pub invariant-loop-place : goal.invariant-loop-place
invariant-loop-place l =
    (kind : ℕ) → kind < l.place → slice_index l.counts kind + slice_index l.gone kind ≡ slice_index l.strays kind + slice_index l.come kind
