use Rattle.std.proofs.Common.{take}
use Rattle.directory_writes.specs.Directory.{entries_of}
use Rattle.sync_provider.specs.Gathering.{Gathers}
use Rattle.sync_provider.specs.Refreshing.{said_all}
use Rattle.sync_provider.proofs.refreshing.gather.Given as goal

-- the decisions so far are gathered
abbrev pub invariant-loop-decision : goal.invariant-loop-decision
invariant-loop-decision l = Gathers (said_all (entries_of l.directory.state) (take l.decision-index l.decisions)) l.fn.gathering l.gathering
