use Rattle.sync_provider.specs.Machine.{fresh, run}
use Rattle.sync_provider.proofs.Incrementally.{sends_what_was_touched}
use Rattle.sync_provider.proofs.laws.refreshes_are_incremental.Goals as goal

pub returns : goal.returns
returns c = λ suffix sid history kind before after ask number count answered.
    sends_what_was_touched (run (fresh suffix sid history kind) before) ask number count after answered
