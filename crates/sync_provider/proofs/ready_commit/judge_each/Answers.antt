-- One more commit, and one that is refused.
use Rattle.std.proofs.Common.{rules, ◌≡◌, ◌∷◌, [], ◌++◌, ◌∙◌, suc, ap, sym, subst, true, List, length, drop, arith}
use Rattle.std.specs.List.{list_all}
use Rattle.std.proofs.lemmas.Iterator.Adapters.{YieldsList-from_vec}
use Rattle.std.proofs.lemmas.Iterator.Consumers.{YieldsList-turn, YieldsList-end}
use Rattle.std.proofs.lemmas.List.{length_push, map-id}
use Rattle.csn_cookie.specs.Cookie.{cookie_text}
use Rattle.entry_tree.specs.Fitting.{is_within_entry_limit}
use Rattle.entry_tree.specs.Sound.{is_sound_put}
use Rattle.directory_writes.specs.Commits.{commit_refusal, Rejects}
use Rattle.directory_writes.specs.Directory.{DirectoryState, IsStanding, cookie_at}
use Rattle.directory_writes.specs.Standing.{StandingState}
use Rattle.directory_writes.specs.declared.commit.DirectoryCommitFault.{DirectoryCommitFault}
use Rattle.directory_writes.proofs.Commits.{refusal_is}
use Rattle.sync_provider.specs.Committing.{first_refusal}
use Rattle.sync_provider.specs.ReadyCommits.{after_each, all_staged, AreReady, AreReadyCommits, IsReadyCommit}
use Rattle.sync_provider.specs.Staging.{each_staged}
use Rattle.sync_provider.specs.declared.committing.StagedCommit.{StagedCommit}
use Rattle.sync_provider.specs.declared.ready_commit.ReadyCommit.{ReadyCommit}
use Rattle.sync_provider.proofs.ReadyCommits.{all_opposed, all_staged-push, are_ready, are_ready-push, first_holds, left_is, ready_commit_is, whole_next}
use Rattle.sync_provider.proofs.ready_commit.judge_each.Goals as goal

pub last_standing-standing-requires : goal.last_standing-standing-requires
last_standing-standing-requires c =
    let d : DirectoryState = c.args.directory.now.state in
    subst (AreReady d) (sym c.as_slice.ensures.value) (are_ready c.args.now d c.loop-staged.each.items c.loop-staged.yielded c.loop-staged.invariant.are)

pub loop-staged-preserved : goal.loop-staged-preserved
loop-staged-preserved c =
    let now = c.args.now in
    let commits = c.args.commits.items in
    let d : DirectoryState = c.args.directory.now.state in
    let staged : StagedCommit = c.in-Some.staged in
    let commit : ReadyCommit = c.in_ok-commit.commit in
    let so_far = c.loop-staged.yielded in
    let each = c.loop-staged.each.items in
    let s : StandingState = c.last_standing-standing.result.now in
    let is = c.loop-staged.invariant in
    let turn = YieldsList-turn (YieldsList-from_vec {s = c.into_iter-staged-iterator.result} commits (search rules) (search rules)) so_far c.loop-staged.staged-iterator c.loop-staged.yielded_by
    c.next.result c.next.new.self staged c.in-Some.is c.next.ensures.steps in
    let rest = left_is commits (length so_far) staged turn.0 turn.1 in
    let others = drop (suc (length so_far)) commits in
    let long : suc (length so_far) ≡ length (so_far ++ staged ∷ []) = omega (arith, length_push so_far staged) in
    let sound = first_holds (λ (one : StagedCommit). list_all is_sound_put one.puts) staged (drop (length so_far) commits) others rest is.sound in
    let light = first_holds (λ (one : StagedCommit). list_all is_within_entry_limit one.puts) staged (drop (length so_far) commits) others rest is.light in
    let stands : IsStanding (after_each d each) s = subst (λ (all : List ReadyCommit). IsStanding (after_each d all) s) c.as_slice.ensures.value c.last_standing-standing.ensures in
    let ready : IsReadyCommit (after_each d each) now commit staged =
    ready_commit_is (after_each d each) s now commit staged stands sound.0 light.0 c.in_ok-commit.ensures.planned c.in_ok-commit.ensures.op c.in_ok-commit.ensures.after in
    let pushed : c.push_commit.new.each.items ≡ each ++ commit ∷ [] = c.in_ok-push_commit.ensures in
    record {
      are = subst (λ (all : List ReadyCommit). AreReadyCommits now d all (so_far ++ staged ∷ [])) (sym pushed) (are_ready-push now d each so_far commit staged is.are ready);
      made = c.in_ok-commit.ensures.staged
          ∙ ap (each_staged commit.ready.preview.touched (cookie_text (cookie_at d.sid d.history commit.ready.preview.csn))) is.made
          ∙ sym (all_staged-push d.sid d.history each commit c.args.searches.now)
          ∙ ap (λ (all : List ReadyCommit). all_staged d.sid d.history all c.args.searches.now) (sym pushed);
      seen = c.make_commit_ready.ensures.searches ∙ is.seen;
      whole = subst (λ n. (so_far ++ staged ∷ []) ++ drop n commits ≡ commits) long (whole_next commits so_far (drop (length so_far) commits) others staged rest is.whole);
      sound = subst (λ n. list_all (λ (one : StagedCommit). list_all is_sound_put one.puts) (drop n commits) ≡ true) long sound.1;
      light = subst (λ n. list_all (λ (one : StagedCommit). list_all is_within_entry_limit one.puts) (drop n commits) ≡ true) long light.1;
    }

pub returns-in_err-commit-clause-refused : goal.returns-in_err-commit-clause-refused
returns-in_err-commit-clause-refused c =
    let now = c.args.now in
    let commits = c.args.commits.items in
    let d : DirectoryState = c.args.directory.now.state in
    let staged : StagedCommit = c.in-Some.staged in
    let so_far = c.loop-staged.yielded in
    let each = c.loop-staged.each.items in
    let s : StandingState = c.last_standing-standing.result.now in
    let fault : DirectoryCommitFault = c.in_err-commit.field-0.0 in
    let is = c.loop-staged.invariant in
    let turn = YieldsList-turn (YieldsList-from_vec {s = c.into_iter-staged-iterator.result} commits (search rules) (search rules)) so_far c.loop-staged.staged-iterator c.loop-staged.yielded_by
    c.next.result c.next.new.self staged c.in-Some.is c.next.ensures.steps in
    let rest = left_is commits (length so_far) staged turn.0 turn.1 in
    let others = drop (suc (length so_far)) commits in
    let stands : IsStanding (after_each d each) s = subst (λ (all : List ReadyCommit). IsStanding (after_each d all) s) c.as_slice.ensures.value c.last_standing-standing.ensures in
    let against : Rejects (commit_refusal (after_each d each) staged.puts staged.drops now) fault =
    subst (λ found. Rejects found fault) (refusal_is (after_each d each) s staged.puts staged.drops now stands) c.in_err-commit.ensures.refused in
    let opposed : Rejects (first_refusal d commits now) fault =
    all_opposed now d each commits so_far others staged fault is.are (ap (λ left. so_far ++ left) (sym rest) ∙ is.whole) against in
    search (rules, opposed)

pub returns-clause-ready : goal.returns-clause-ready
returns-clause-ready c =
    let commits = c.args.commits.items in
    let so_far = c.loop-staged.yielded in
    let end = YieldsList-end (YieldsList-from_vec {s = c.into_iter-staged-iterator.result} commits (search rules) (search rules)) so_far c.loop-staged.staged-iterator c.loop-staged.yielded_by
    c.next.result c.next.new.self c.in-None.is c.next.ensures.steps in
    subst (AreReadyCommits c.args.now c.args.directory.now.state c.loop-staged.each.items) (sym (map-id so_far) ∙ end.0) c.loop-staged.invariant.are
