-- What commits that are ready leave of the provider, and what rejects those that are not.
use Rattle.std.proofs.Common.{rules, ◌≡◌, ◌∙◌, ap, sym, subst, length, arith}
use Rattle.directory_writes.specs.Commits.{Rejects}
use Rattle.directory_writes.specs.Directory.{DirectoryState}
use Rattle.directory_writes.specs.declared.commit.DirectoryCommitFault.{DirectoryCommitFault}
use Rattle.sync_provider.specs.Committing.{first_refusal}
use Rattle.sync_provider.specs.Machine.{ProviderState}
use Rattle.sync_provider.specs.ReadyCommits.{after_each, AreReady}
use Rattle.sync_provider.proofs.CommittedEach.{committed_view}
use Rattle.sync_provider.proofs.ReadyCommits.{after_length, all_unopposed, are_ready, as_many_ready}
use Rattle.sync_provider.proofs.sync_directory.SyncDirectory.take_each.Goals as goal

pub put_each_in_place-requires-clause-ready : goal.put_each_in_place-requires-clause-ready
put_each_in_place-requires-clause-ready c =
    let d : DirectoryState = c.self.inside.directory.state in
    let each = c.in_ok-each.each.items in
    subst (λ (state : DirectoryState). AreReady state each) (sym c.make_each_ready.ensures.state) (are_ready c.args.now d each c.args.commits.items c.in_ok-each.ensures.ready)

pub returns-in_err-each-clause-refused : goal.returns-in_err-each-clause-refused
returns-in_err-each-clause-refused c =
    let commits = c.args.commits.items in
    let fault : DirectoryCommitFault = c.in_err-each.field-0.0 in
    let opposed : Rejects (first_refusal c.args.self.now.directory commits c.args.now) fault =
    subst (λ (p : ProviderState). Rejects (first_refusal p.directory commits c.args.now) fault) c.self.view_is c.in_err-each.ensures.refused in
    search (rules, opposed)

pub returns-clause-accepted : goal.returns-clause-accepted
returns-clause-accepted c =
    let commits = c.args.commits.items in
    ap (λ (p : ProviderState). first_refusal p.directory commits c.args.now) (sym c.self.view_is)
    ∙ all_unopposed c.args.now c.self.inside.directory.state c.in_ok-each.each.items commits c.in_ok-each.ensures.ready

pub returns-clause-state : goal.returns-clause-state
returns-clause-state c =
    let was = c.self.inside in
    let d : DirectoryState = was.directory.state in
    let each = c.in_ok-each.each.items in
    let made : c.put_each_in_place.new.directory.state ≡ after_each d each =
    c.put_each_in_place.ensures.state ∙ ap (λ (state : DirectoryState). after_each state each) c.make_each_ready.ensures.state in
    committed_view was.kind d c.put_each_in_place.new.directory.state was.searches c.make_each_ready.new.searches c.put_each_in_place.new.searches was.queue_limit c.args.self.now c.args.now each
    c.args.commits.items c.self.view_is c.requires.replica c.in_ok-each.ensures.ready c.in_ok-each.ensures.staged made c.put_each_in_place.ensures.searches

pub returns-clause-count : goal.returns-clause-count
returns-clause-count c =
    let d : DirectoryState = c.self.inside.directory.state in
    let each = c.in_ok-each.each.items in
    let made : c.put_each_in_place.new.directory.state ≡ after_each d each =
    c.put_each_in_place.ensures.state ∙ ap (λ (state : DirectoryState). after_each state each) c.make_each_ready.ensures.state in
    let long = ap (λ (state : DirectoryState). length state.writes) made ∙ after_length d each in
    let same = ap (λ (p : ProviderState). length p.directory.writes) c.self.view_is in
    omega (arith, c.writes.ensures.value, long, as_many_ready c.args.now d each c.args.commits.items c.in_ok-each.ensures.ready, same)
