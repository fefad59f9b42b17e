use Rattle.std.proofs.Common.{drop, length}
use Rattle.sync_provider.proofs.ReadyCommits.{PutsOn}
use Rattle.sync_provider.proofs.ready_commit.install_each.Given as goal

-- the commits that are left may be put in place
abbrev pub invariant-loop-commit : goal.invariant-loop-commit
invariant-loop-commit l = PutsOn l.fn.each.items l.fn.directory l.directory (drop (length l.yielded) l.fn.each.items)
