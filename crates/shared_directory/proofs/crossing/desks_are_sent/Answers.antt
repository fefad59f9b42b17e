use denote.Exit.{yes}
use denote.Param.{param}
use denote.Param.Send.{arg_send, param_send}
use mir.Syntax.{named}
use Rattle.shared_directory.proofs.Sent.{desk_send}
use Rattle.shared_directory.proofs.crossing.desks_are_sent.Goals as goal
use Rattle.shared_directory.proofs.crossing.desks_are_sent.Lts as lts

pub sends-requires-send-T : goal.sends-requires-send-T
sends-requires-send-T g c κs within =
    let desk = desk_send (record { mir = named 1; lft = κs.1.0 }) (param 0 g.row.R) c.type_bounds.sync-R in
    param_send 0 (lts.arg-0-0 g.row.R g.R.laws g.R.Wait-dict κs) (arg_send _ yes _ desk)
