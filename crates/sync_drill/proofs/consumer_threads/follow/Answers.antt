-- What the thread that takes is given may go there, and what it hands back may come from there.
use denote.Exit.{no}
use denote.Param.Send.{arg_send, param_send}
use mir.Syntax.{named}
use Rattle.std.specs.Prelude.{codes}
use Rattle.sync_drill.proofs.Sent.{taking_given_send, taking_send}
use Rattle.sync_drill.proofs.consumer_threads.follow.Goals as goal

pub join-taking-requires-send-F : goal.join-taking-requires-send-F
join-taking-requires-send-F g c κs within =
    let given = taking_given_send g.row.R c.type_bounds.sync-R (codes "sync_drill::consumer_threads::fn::follow::take+Self")
    (record { mir = named 6; lft = κs.1.1.1.1.1.1.0 }) (record { mir = named 7; lft = κs.1.1.1.1.1.1.1.0 }) in
    param_send 1 _ (arg_send _ no _ given)

pub join-taking-requires-send-A : goal.join-taking-requires-send-A
join-taking-requires-send-A g c κs within = param_send 3 _ (arg_send _ no _ taking_send)

pub returns : goal.returns
returns g c = record { handing = c.join-taking.ensures.second; taking = c.join-taking.ensures.first }
