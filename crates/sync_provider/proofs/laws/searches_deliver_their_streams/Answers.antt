use Rattle.sync_provider.specs.Machine.{fresh, run}
use Rattle.sync_provider.proofs.Followed.{delivers_its_stream}
use Rattle.sync_provider.proofs.laws.searches_deliver_their_streams.Goals as goal

pub returns : goal.returns
returns c = λ suffix sid history kind before after ask number count answered.
    delivers_its_stream (run (fresh suffix sid history kind) before) ask number count after answered
