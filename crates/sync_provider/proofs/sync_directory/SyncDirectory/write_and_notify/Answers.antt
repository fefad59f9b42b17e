-- A write that is refused.
use Rattle.std.proofs.Common.{◌≡◌, ap, subst}
use Rattle.directory_writes.specs.Directory.{DirectoryState, judged, Refuses}
use Rattle.directory_writes.proofs.Judged.{refused_code}
use Rattle.sync_provider.proofs.Delivery.{judged_refused}
use Rattle.sync_provider.proofs.sync_directory.SyncDirectory.write_and_notify.Goals as goal

pub returns-in-Err-clause-code : goal.returns-in-Err-clause-code
returns-in-Err-clause-code c =
    let op = c.args.op in
    let same : c.self.inside.directory.state ≡ c.args.self.now.directory = ap (λ p. p.directory) c.self.view_is in
    let refuses : Refuses (judged c.args.self.now.directory op c.args.now) c.in-Err.fault = subst (λ (d : DirectoryState). Refuses (judged d op c.args.now) c.in-Err.fault) same c.in-Err.ensures.refused in
    refused_code c.args.self.now.directory op c.args.now c.in-Err.fault c.code_of.result refuses c.code_of.ensures

pub returns-in-Err-clause-state : goal.returns-in-Err-clause-state
returns-in-Err-clause-state c =
    let op = c.args.op in
    let same : c.self.inside.directory.state ≡ c.args.self.now.directory = ap (λ p. p.directory) c.self.view_is in
    let refuses : Refuses (judged c.args.self.now.directory op c.args.now) c.in-Err.fault = subst (λ (d : DirectoryState). Refuses (judged d op c.args.now) c.in-Err.fault) same c.in-Err.ensures.refused in
    judged_refused c.args.self.now op c.args.now c.in-Err.fault c.code_of.result refuses c.code_of.ensures
