-- What rejects a commit by what is kept beside the writes rejects it by the writes, and so for what is reported of it.
use Rattle.std.proofs.Common.{◌≡◌, None, Ok, subst, true}
use Rattle.std.specs.Prelude.{IfErr}
use Rattle.std.specs.List.{list_all}
use Rattle.std.proofs.lemmas.Result.{IfOk-weaker}
use Rattle.entry_tree.specs.Fitting.{is_within_entry_limit}
use Rattle.entry_tree.specs.Sound.{is_sound_put}
use Rattle.entry_tree.specs.declared.op.Op.TheVariants.{Commit}
use Rattle.directory_writes.specs.Commits.{commit_refusal, IsCommitPreview, Rejects}
use Rattle.directory_writes.specs.Directory.{DirectoryState, DirectoryWithRoom, judged, IsKeptBeside, IsPreview}
use Rattle.directory_writes.specs.declared.preview.Preview.{Preview}
use Rattle.directory_writes.proofs.Commits.{plan_judged, plan_planned, plan_unopposed, refusal_is}
use Rattle.directory_writes.proofs.directory.Directory.judge_commit.Goals as goal

pub returns-clause-ok : goal.returns-clause-ok
returns-clause-ok c =
    let d : DirectoryState = c.args.self.now.state in
    let s = c.self.inside.standing in
    let puts = c.args.puts.now in
    let drops = c.args.drops.now in
    let kept = subst (λ (v : DirectoryWithRoom). IsKeptBeside v.state s) c.self.view_is c.self.invariant in
    IfOk-weaker c.preview_commit.result (IsCommitPreview s puts drops c.args.now) (λ (preview : Preview). commit_refusal d puts drops c.args.now ≡ None)
    (λ preview plan. plan_unopposed d s puts drops c.args.now preview kept.standing plan) c.preview_commit.ensures.planned

pub returns-clause-accepted : goal.returns-clause-accepted
returns-clause-accepted c =
    let d : DirectoryState = c.args.self.now.state in
    let s = c.self.inside.standing in
    let puts = c.args.puts.now in
    let drops = c.args.drops.now in
    let kept = subst (λ (v : DirectoryWithRoom). IsKeptBeside v.state s) c.self.view_is c.self.invariant in
    IfOk-weaker c.preview_commit.result (IsCommitPreview s puts drops c.args.now)
    (λ (preview : Preview). judged d (Commit puts drops) c.args.now ≡ Ok (record { csn = preview.csn; op = Commit puts drops }))
    (λ preview plan. plan_judged d s puts drops c.args.now preview kept.standing plan) c.preview_commit.ensures.planned

pub returns-clause-planned : goal.returns-clause-planned
returns-clause-planned c =
    let d : DirectoryState = c.args.self.now.state in
    let s = c.self.inside.standing in
    let puts = c.args.puts.now in
    let drops = c.args.drops.now in
    let kept = subst (λ (v : DirectoryWithRoom). IsKeptBeside v.state s) c.self.view_is c.self.invariant in
    IfOk-weaker c.preview_commit.result (IsCommitPreview s puts drops c.args.now)
    (λ (preview : Preview). list_all is_sound_put puts ≡ true → list_all is_within_entry_limit puts ≡ true → IsPreview d (Commit puts drops) preview)
    (λ preview plan. plan_planned d s puts drops c.args.now preview kept.standing plan) c.preview_commit.ensures.planned

pub returns-clause-refused : goal.returns-clause-refused
returns-clause-refused c =
    let d : DirectoryState = c.args.self.now.state in
    let s = c.self.inside.standing in
    let puts = c.args.puts.now in
    let drops = c.args.drops.now in
    let kept = subst (λ (v : DirectoryWithRoom). IsKeptBeside v.state s) c.self.view_is c.self.invariant in
    subst (λ refusal. IfErr c.preview_commit.result (Rejects refusal)) (refusal_is d s puts drops c.args.now kept.standing) c.preview_commit.ensures.refused
