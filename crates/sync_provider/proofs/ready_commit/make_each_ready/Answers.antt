-- What is staged for these commits alone.
use Rattle.std.proofs.Common.{◌∙◌, ap}
use Rattle.directory_writes.specs.Directory.{DirectoryState}
use Rattle.sync_provider.specs.ReadyCommits.{all_staged}
use Rattle.sync_provider.proofs.ready_commit.make_each_ready.Goals as goal

pub returns-clause-staged : goal.returns-clause-staged
returns-clause-staged c =
    let d : DirectoryState = c.args.directory.now.state in
    c.in_ok-each.ensures.staged ∙ ap (all_staged d.sid d.history c.in_ok-each.each.items) c.unstage_each.ensures.unstaged
