-- What the thread of a connection is given may go there, and what it hands back may come back.
use denote.Exit.{no}
use denote.Param.{copied, param}
use denote.Param.Send.{arg_send, param_send}
use mir.Syntax.{named}
use Rattle.std.specs.Prelude.{codes}
use Rattle.ldap_listener.proofs.Sent.{ended_send, given_send}
use Rattle.ldap_listener.proofs.accepting.start.Goals as goal

pub spawn_with-requires-send-F : goal.spawn_with-requires-send-F
spawn_with-requires-send-F g c κs within =
    let given = given_send (record { mir = named 7; lft = κs.1.1.1.1.1.1.1.0 }) (param 1 g.row.R) (param 4 g.row.G) c.type_bounds.sync-R c.type_bounds.sync-G
    (copied 3 g.row.K) (param 6 g.row.N-Link) c.type_bounds.send-K c.type_bounds.send-N-Link (codes "ldap_listener::accepting::fn::start::serve+Self") (record { mir = named 6; lft = κs.1.1.1.1.1.1.0 }) in
    param_send 2 _ (arg_send _ no _ given)

pub spawn_with-requires-send-T : goal.spawn_with-requires-send-T
spawn_with-requires-send-T g c κs within =
    let ended = ended_send (param 6 g.row.N-Link) c.type_bounds.send-N-Link in
    param_send 3 _ (arg_send _ no _ ended)
