-- One decision more.
use Rattle.std.proofs.Common.{take, subst, sym}
use Rattle.directory_writes.specs.Directory.{entries_of}
use Rattle.sync_provider.specs.Gathering.{Gathers}
use Rattle.sync_provider.specs.Refreshing.{said_all}
use Rattle.sync_provider.proofs.Sets.{gathers_more, said_more}
use Rattle.sync_provider.proofs.refreshing.gather.Goals as goal

pub loop-decision-preserved : goal.loop-decision-preserved
loop-decision-preserved c =
    let entries = entries_of c.args.directory.now.state in
    let decisions = c.args.decisions.now in
    let i = c.loop-decision.decision-index in
    let first = c.args.gathering.now in
    let last = c.gather_one.new.gathering in
    subst (λ ws. Gathers ws first last) (sym (said_more entries decisions i _ c.loop-decision-test.true))
    (gathers_more (said_all entries (take i decisions)) _ first c.loop-decision.gathering last c.loop-decision.invariant c.in_ok-gather_one.ensures)
