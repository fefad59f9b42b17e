use Rattle.session_log.proofs.Covering.{IsLogOf-fresh}
use Rattle.directory_writes.specs.Directory.{first_log_limit}
use Rattle.sync_provider.specs.Machine.{fresh, run}
use Rattle.sync_provider.proofs.Known.{run_logged, shows_of_log}
use Rattle.sync_provider.proofs.laws.logs_show_what_was_touched.Goals as goal

pub returns : goal.returns
returns c = λ suffix sid history kind calls.
    shows_of_log (run (fresh suffix sid history kind) calls).directory (run_logged calls (fresh suffix sid history kind) (IsLogOf-fresh first_log_limit))
