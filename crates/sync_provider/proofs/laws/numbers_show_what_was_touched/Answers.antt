use Rattle.sync_provider.specs.Machine.{fresh, run}
use Rattle.sync_provider.proofs.Known.{shows_of_numbers}
use Rattle.sync_provider.proofs.laws.numbers_show_what_was_touched.Goals as goal

pub returns : goal.returns
returns c = λ suffix sid history kind calls. shows_of_numbers (run (fresh suffix sid history kind) calls).directory
