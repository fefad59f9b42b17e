-- Passes, and what was tried, may go to another thread.
use denote.Exit.{yes}
use denote.Param.Send.{param_send, arg_send}
use mir.Syntax.{named}
use Rattle.std.specs.Prelude.{codes}
use Rattle.desk_tests.proofs.Given.{two_pairs_given_send, four_worked_send}
use Rattle.desk_tests.proofs.HandedBack.{noted, noted_send}
use Rattle.desk_tests.proofs.working.work_in_eight.Goals as goal
use Rattle.desk_tests.proofs.working.work_in_eight.Lts as lts

pub join-requires-send-F : goal.join-requires-send-F
join-requires-send-F g c κs within =
    let given = two_pairs_given_send (codes "desk_tests::working::fn::work_in_eight::join+arg2+Self") g.row.R c.type_bounds.sync-R
    (record { mir = named 6; lft = κs.1.1.1.1.1.1.0 }) (record { mir = named 7; lft = κs.1.1.1.1.1.1.1.0 }) (record { mir = named 8; lft = κs.1.1.1.1.1.1.1.1.0 }) in
    param_send 1 (lts.arg-0-1 g.row.R g.R.laws g.R.Threads-dict g.R.Wait-dict κs) (arg_send _ yes _ given)

pub join-requires-send-A : goal.join-requires-send-A
join-requires-send-A g c κs within = param_send 3 _ (arg_send _ yes _ (four_worked_send noted noted_send))
