-- That after the last of them, or that of the directory.
use Rattle.sync_provider.proofs.ReadyCommits.{last_stands, none_stands}
use Rattle.sync_provider.proofs.ready_commit.last_standing.Goals as goal

pub returns-in-Some : goal.returns-in-Some
returns-in-Some c =
    last_stands c.args.directory.now.state c.args.each.now _ c.in-Some.last.now c.in-Some.ensures.cases.0 c.requires

pub returns-in-None : goal.returns-in-None
returns-in-None c =
    none_stands c.args.directory.now.state c.args.each.now c.standing.result.now c.in-None.ensures.cases c.standing.ensures
