use Rattle.std.proofs.Common.{◌≡◌, ℕ, length}
use Rattle.directory_writes.specs.Starting.{start_of}
use Rattle.entry_tree.specs.Selection.{search_of}
use Rattle.sync_slices.specs.Slices.{made_ready}
use Rattle.sync_provider.specs.Search.{sliced_in}
use Rattle.sync_provider.proofs.pending_refresh.PendingRefresh.made_ready.Given as goal

-- it is made ready as the refresh is
abbrev pub invariant-loop-start : goal.invariant-loop-start
invariant-loop-start l =
    (accepted : ℕ) → made_ready (sliced_in l.directory.state (search_of l.spec) (start_of l.fn.start) l.fn.persists accepted) (length l.directory.state.writes) l.ready
    ≡ made_ready (sliced_in l.directory.state (search_of l.spec) (start_of l.fn.start) l.fn.persists accepted) (length l.directory.state.writes) l.self

abbrev pub decreases-loop-start : goal.decreases-loop-start
decreases-loop-start l = length l.ready.left
