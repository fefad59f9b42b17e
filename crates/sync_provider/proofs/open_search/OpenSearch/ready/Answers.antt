-- What is due stays beside it.
use Rattle.std.proofs.Common.{◌≡◌, ℕ, length, ap, sym, ◌∙◌}
use Rattle.std.proofs.lemmas.Result.{IfOk-weaker}
use Rattle.entry_tree.specs.Selection.{search_of}
use Rattle.entry_tree.specs.declared.spec.Spec.{Spec}
use Rattle.sync_slices.specs.Slices.{SlicedRefresh, SliceProgress, made_ready}
use Rattle.directory_writes.specs.Directory.{DirectoryState}
use Rattle.directory_writes.specs.Starting.{start_of}
use Rattle.sync_provider.specs.Search.{SearchState, sliced, sliced_in}
use Rattle.sync_provider.specs.Staging.{HeldSearch}
use Rattle.sync_provider.proofs.Turns.{made_beside}
use Rattle.sync_provider.proofs.open_search.OpenSearch.ready.Goals as goal

pub returns : goal.returns
returns c =
    let d : DirectoryState = c.args.directory.now.state in
    let now = length d.writes in
    let was = c.self.inside in
    let s : SearchState = c.args.self.now.search in
    let spec = c.deref.result.now in
    let beside : s.progress ≡ record was.refresh { due = s.progress.due } =
    ap (λ (held : HeldSearch). held.search.progress) (sym c.self.view_is) ∙ ap (λ (held : HeldSearch). record was.refresh { due = held.search.progress.due }) c.self.view_is in
    let same : sliced_in d (search_of spec) (start_of was.start) was.persists s.accepted ≡ sliced d s =
    ap (λ (spec : Spec). sliced_in d (search_of spec) (start_of was.start) was.persists s.accepted) c.deref.ensures
    ∙ (λ i. sliced_in d (c.self.view_is i).search.spec (c.self.view_is i).search.start (c.self.view_is i).search.persists s.accepted) in
    IfOk-weaker c.made_ready.result
    (λ (ready : SliceProgress). (accepted : ℕ) → ready ≡ made_ready (sliced_in d (search_of spec) (start_of was.start) was.persists accepted) now was.refresh)
    (λ (ready : SliceProgress). record ready { due = s.progress.due } ≡ made_ready (sliced d s) now s.progress)
    (λ ready is. made_beside d s was.refresh ready s.progress.due beside (is s.accepted ∙ ap (λ (r : SlicedRefresh). made_ready r now was.refresh) same))
    c.made_ready.ensures
