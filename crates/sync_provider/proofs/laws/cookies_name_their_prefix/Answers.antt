use Rattle.std.proofs.Common.{subst}
use Rattle.directory_writes.specs.Directory.{CsnsRise}
use Rattle.sync_provider.specs.Machine.{fresh, run}
use Rattle.sync_provider.proofs.Judged.{run_rises, run_same}
use Rattle.directory_writes.proofs.Csns.{rises-none, upto_csn}
use Rattle.sync_provider.proofs.laws.cookies_name_their_prefix.Goals as goal

pub returns : goal.returns
returns c = λ suffix sid history kind calls.
    let after = (run (fresh suffix sid history kind) calls).directory in
    let same = run_same calls (fresh suffix sid history kind) in
    upto_csn sid after.writes
    (subst (λ number. CsnsRise number after.writes) same.sid (run_rises calls (fresh suffix sid history kind) (rises-none sid)))
