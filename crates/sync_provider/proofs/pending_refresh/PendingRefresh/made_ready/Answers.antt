-- A piece more, until one is enough.
use Rattle.std.proofs.Common.{length, arith, sym, ◌∙◌}
use Rattle.directory_writes.specs.Directory.{DirectoryState}
use Rattle.directory_writes.specs.Starting.{start_of}
use Rattle.entry_tree.specs.Selection.{search_of}
use Rattle.sync_slices.specs.Slices.{SlicedRefresh}
use Rattle.sync_provider.specs.Search.{sliced_in}
use Rattle.sync_provider.proofs.Pieces.{fewer_left, made_next, made_there, ready_by, waits_by}
use Rattle.sync_provider.proofs.pending_refresh.PendingRefresh.made_ready.Goals as goal

pub loop-start-preserved : goal.loop-start-preserved
loop-start-preserved c = λ accepted.
    let d : DirectoryState = c.args.directory.now.state in
    let r : SlicedRefresh = sliced_in d (search_of c.args.spec.now) (start_of c.args.start) c.args.persists accepted in
    made_next r (length d.writes) (omega arith) c.loop-start.ready _ (sym c.is_waiting.ensures ∙ c.loop-start-test.true) (c.in_ok-ready-2.ensures accepted)
    ∙ c.loop-start.invariant accepted

pub loop-start-smaller : goal.loop-start-smaller
loop-start-smaller c =
    let d : DirectoryState = c.args.directory.now.state in
    let r : SlicedRefresh = sliced_in d (search_of c.args.spec.now) (start_of c.args.start) c.args.persists 0 in
    fewer_left r (length d.writes) (omega arith) c.loop-start.ready _ (waits_by c.loop-start.ready (sym c.is_waiting.ensures ∙ c.loop-start-test.true)).1 (c.in_ok-ready-2.ensures 0)

pub returns : goal.returns
returns c = λ accepted.
    let d : DirectoryState = c.args.directory.now.state in
    let r : SlicedRefresh = sliced_in d (search_of c.args.spec.now) (start_of c.args.start) c.args.persists accepted in
    sym (made_there r (length d.writes) c.loop-start.ready (ready_by c.loop-start.ready (sym c.is_waiting.ensures ∙ c.loop-start-test.false))) ∙ c.loop-start.invariant accepted
