-- The desks are fresh, and they may go to other threads.
use denote.Exit.{yes}
use denote.Param.{param}
use denote.Param.Send.{arg_send, param_send}
use Rattle.std.proofs.Common.{◌∙◌}
use Rattle.std.proofs.lemmas.Slice.Zip.{AllZip-long}
use Rattle.shared_directory.proofs.Sent.{desk_send}
use Rattle.drill_directory.proofs.FreshPorts.{all_fresh}
use Rattle.drill_directory.proofs.drilling.drilled_at_desks.Goals as goal
use Rattle.drill_directory.proofs.drilling.drilled_at_desks.Lts as lts

pub desks_of-requires : goal.desks_of-requires
desks_of-requires g c = c.requires.new

pub drilled_at-requires-send-P : goal.drilled_at-requires-send-P
drilled_at-requires-send-P g c κs within =
    param_send 1 (lts.arg-3-1 g.row.R g.R.laws g.R.Threads-dict g.R.Wait-dict κs) (arg_send _ yes _ (desk_send _ (param 0 g.row.R) c.type_bounds.sync-R))

pub drilled_at-requires-clause-plan : goal.drilled_at-requires-clause-plan
drilled_at-requires-clause-plan g c κs within = c.requires.plan

pub drilled_at-requires-clause-count : goal.drilled_at-requires-clause-count
drilled_at-requires-clause-count g c κs within =
    AllZip-long _ c.args.passes.items c.in_ok-desks.desks.items c.in_ok-desks.ensures ∙ c.requires.count

pub drilled_at-requires-clause-fresh : goal.drilled_at-requires-clause-fresh
drilled_at-requires-clause-fresh g c κs within =
    let many = AllZip-long _ c.args.passes.items c.in_ok-desks.desks.items c.in_ok-desks.ensures in
    all_fresh _ _ c.args.directory.now c.args.passes.items c.in_ok-desks.desks.items many c.requires.new c.in_ok-desks.ensures
