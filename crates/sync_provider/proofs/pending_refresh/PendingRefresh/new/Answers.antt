-- Its first piece is the next one of all.
use Rattle.std.proofs.Common.{◌≡◌, ℕ, length, ◌∙◌}
use Rattle.std.proofs.lemmas.Result.{IfOk-weaker}
use Rattle.directory_writes.specs.Directory.{DirectoryState}
use Rattle.directory_writes.specs.Starting.{start_of}
use Rattle.entry_tree.specs.Selection.{Search, search_of}
use Rattle.sync_model.specs.Stream.{Start}
use Rattle.sync_slices.specs.Slices.{SlicedRefresh, SliceProgress, first_progress, with_next}
use Rattle.sync_provider.specs.Search.{sliced_in}
use Rattle.sync_provider.proofs.Deciding.{walked_is}
use Rattle.sync_provider.proofs.Pieces.{first_is}
use Rattle.sync_provider.proofs.pending_refresh.PendingRefresh.new.Goals as goal

pub returns : goal.returns
returns c =
    let d : DirectoryState = c.args.directory.now.state in
    let now = length d.writes in
    let wanted : Search = search_of c.args.spec.now in
    let start : Start = start_of c.args.start in
    let persists = c.args.persists in
    let r : SlicedRefresh = sliced_in d wanted start persists now in
    IfOk-weaker c.with_next.result (λ (next : SliceProgress). (accepted : ℕ) → next ≡ with_next (sliced_in d wanted start persists accepted) now c.undecided-undecided.result)
    (λ (refresh : SliceProgress). refresh ≡ first_progress r)
    (λ next is. is now ∙ first_is r c.undecided-undecided.result c.in_ok-walk.walk c.undecided-undecided.ensures (c.in_ok-walk.ensures ∙ walked_is persists d wanted start))
    c.with_next.ensures
