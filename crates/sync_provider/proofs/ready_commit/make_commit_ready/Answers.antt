-- What is previewed of the commit is ready.
use Rattle.std.proofs.Common.{rules, ◌∙◌, ap, sym, subst, List, ℕ}
use Rattle.csn_cookie.specs.Cookie.{cookie_text}
use Rattle.entry_tree.specs.declared.entry.Entry.{Entry}
use Rattle.entry_tree.specs.declared.op.Op.TheVariants.{Commit}
use Rattle.directory_writes.specs.Commits.{refusal_beside, IsCommitPreview, Rejects}
use Rattle.directory_writes.specs.Directory.{DirectoryState, cookie_at}
use Rattle.directory_writes.specs.Standing.{StandingState, standing_after}
use Rattle.directory_writes.specs.declared.commit.DirectoryCommitFault.{DirectoryCommitFault}
use Rattle.directory_writes.specs.declared.preview.Preview.{Preview}
use Rattle.directory_writes.proofs.Commits.{next_of_plan}
use Rattle.sync_provider.specs.Staging.{each_staged}
use Rattle.sync_provider.proofs.ready_commit.make_commit_ready.Goals as goal

pub ready-requires : goal.ready-requires
ready-requires c =
    let s : StandingState = c.args.standing.now in
    let staged = c.args.staged in
    let preview : Preview = c.in_ok-preview.preview in
    next_of_plan s staged.puts staged.drops c.args.now preview
    (subst (λ (drops : List ℕ). IsCommitPreview s staged.puts drops c.args.now preview) c.list-drops.ensures
    (subst (λ (puts : List Entry). IsCommitPreview s puts c.list-drops.result.now c.args.now preview) c.list-puts.ensures c.in_ok-preview.ensures.planned))

pub returns-clause-planned : goal.returns-clause-planned
returns-clause-planned c =
    let s : StandingState = c.args.standing.now in
    let staged = c.args.staged in
    let preview : Preview = c.in_ok-ready.ready.preview in
    subst (λ (drops : List ℕ). IsCommitPreview s staged.puts drops c.args.now preview) c.list-drops.ensures
    (subst (λ (puts : List Entry). IsCommitPreview s puts c.list-drops.result.now c.args.now preview) c.list-puts.ensures
    (subst (IsCommitPreview s c.list-puts.result.now c.list-drops.result.now c.args.now) (sym c.in_ok-ready.ensures.preview) c.in_ok-preview.ensures.planned))

pub returns-clause-after : goal.returns-clause-after
returns-clause-after c = c.in_ok-ready.ensures.after ∙ ap (standing_after c.args.standing.now (Commit c.args.staged.puts c.args.staged.drops)) (sym c.in_ok-ready.ensures.preview)

pub returns-clause-staged : goal.returns-clause-staged
returns-clause-staged c =
    let d : DirectoryState = c.args.directory.now.state in
    c.in_ok-stage_write.ensures.staged
    ∙ ap (λ (preview : Preview). each_staged preview.touched (cookie_text (cookie_at d.sid d.history preview.csn)) c.args.searches.now) (sym c.in_ok-ready.ensures.preview)

pub returns-in_err-preview-clause-refused : goal.returns-in_err-preview-clause-refused
returns-in_err-preview-clause-refused c =
    let s : StandingState = c.args.standing.now in
    let staged = c.args.staged in
    let fault : DirectoryCommitFault = c.in_err-preview.field-0.0 in
    let against : Rejects (refusal_beside s staged.puts staged.drops c.args.now) fault =
    subst (λ (drops : List ℕ). Rejects (refusal_beside s staged.puts drops c.args.now) fault) c.list-drops.ensures
    (subst (λ (puts : List Entry). Rejects (refusal_beside s puts c.list-drops.result.now c.args.now) fault) c.list-puts.ensures c.in_err-preview.ensures.refused) in
    search (rules, against)
