use Rattle.std.proofs.Common.{Err, ap}
use Rattle.sync_io.specs.declared.dial.NetFault.{NetFault}
use Rattle.syncrepl_tool.proofs.EndedServing.{ends_at, faults_after, faults_of, unheard_at}
use Rattle.syncrepl_tool.proofs.serving.serve_at.Goals as goal

-- the net listens

pub serve_opened-requires-clause-seats : goal.serve_opened-requires-clause-seats
serve_opened-requires-clause-seats g c κs within = c.requires.seats

pub serve_opened-requires-clause-filter : goal.serve_opened-requires-clause-filter
serve_opened-requires-clause-filter g c κs within = c.requires.filter

pub returns-in-Ok-clause-serves : goal.returns-in-Ok-clause-serves
returns-in-Ok-clause-serves g c =
    ends_at _ c.args.ready _ _ _ c.serve_opened.result (rw c.as_str.ensures at (c.in-Ok.ensures.asked (λ e. let never : ⊥ = cc in never))) c.serve_opened.ensures.serves

pub returns-in-Ok-clause-faults : goal.returns-in-Ok-clause-faults
returns-in-Ok-clause-faults g c = faults_after _ _ _ _ (c.in-Ok.ensures.faultless (λ e. let never : ⊥ = cc in never)) c.serve_opened.ensures.faults

-- it did not listen

pub returns-in-Err-clause-serves : goal.returns-in-Err-clause-serves
returns-in-Err-clause-serves g c =
    let asked = c.in-Err.ensures in
    unheard_at _ c.args.ready _ _ c.in-Err.fault
    (λ failed. rw c.as_str.ensures at (asked.asked (λ e. let never : ⊥ = cc in never)))
    (λ none. asked.unasked (ap (λ (fault : NetFault). Err fault) none))

pub returns-in-Err-clause-faults : goal.returns-in-Err-clause-faults
returns-in-Err-clause-faults g c = faults_of c.in-Err.fault _ _ c.in-Err.ensures.failed c.in-Err.ensures.faultless c.in-Err.ensures.later
