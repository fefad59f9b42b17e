use Rattle.sync_provider.specs.Machine.{fresh, run}
use Rattle.sync_provider.proofs.Followed.{overflows_exactly}
use Rattle.sync_provider.proofs.laws.queues_overflow_exactly.Goals as goal

pub returns : goal.returns
returns c = λ suffix sid history kind before after ask number count answered.
    overflows_exactly (run (fresh suffix sid history kind) before) ask number count after answered
