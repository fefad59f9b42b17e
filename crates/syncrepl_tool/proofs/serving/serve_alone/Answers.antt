use Rattle.std.proofs.Common.{ap, inl, refl}
use Rattle.syncrepl_tool.proofs.EndedServing.{faults_none, opened_alone}
use Rattle.syncrepl_tool.proofs.serving.serve_alone.Goals as goal

-- out of memory no link was asked for
pub returns-in_default-clause-serves : goal.returns-in_default-clause-serves
returns-in_default-clause-serves g c = inl (ap g.N.Net.served c.in_default.ensures.err)

pub returns-in_default-clause-faults : goal.returns-in_default-clause-faults
returns-in_default-clause-faults g c = faults_none _ _ _ refl (ap g.N.Net.net_fault_count c.in_default.ensures.err)

pub returns-clause-serves : goal.returns-clause-serves
returns-clause-serves g c =
    let all = c.in-Ok.ensures.serves in
    opened_alone c.args.limits.connections all.0 c.in-Ok.accepted all.1 all.2

pub returns-clause-faults : goal.returns-clause-faults
returns-clause-faults g c = record { failed = c.in-Ok.ensures.failed; faultless = c.in-Ok.ensures.faultless; later = c.serve_directory.ensures.later }
