use Rattle.std.proofs.Common.{subst}
use Rattle.directory_writes.specs.Directory.{AreAccepted}
use Rattle.sync_provider.specs.Machine.{fresh, run}
use Rattle.sync_provider.proofs.Judged.{run_accepted, run_same}
use Rattle.sync_provider.proofs.laws.writes_were_accepted.Goals as goal

pub returns : goal.returns
returns c = λ suffix sid history kind calls sound.
    let after = (run (fresh suffix sid history kind) calls).directory in
    let same = run_same calls (fresh suffix sid history kind) in
    subst (λ name. AreAccepted name history after.writes) same.suffix
    (subst (λ number. AreAccepted after.suffix number after.writes) same.history (run_accepted calls (fresh suffix sid history kind) sound tt))
