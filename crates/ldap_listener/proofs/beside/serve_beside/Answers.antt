-- What the half that follows is given may go to a thread, and what it hands back may come back.
use denote.Exit.{no}
use denote.Param.{copied, param}
use denote.Param.Send.{arg_send, param_send}
use mir.Syntax.{named}
use Rattle.std.specs.Prelude.{codes}
use Rattle.ldap_listener.proofs.Sent.{followed_given_send, followed_send}
use Rattle.ldap_listener.proofs.beside.serve_beside.Goals as goal

pub join-followed-requires-send-F : goal.join-followed-requires-send-F
join-followed-requires-send-F g c κs within =
    let given = followed_given_send (record { mir = named 7; lft = κs.1.1.1.1.1.1.1.0 }) (param 0 g.row.R) (param 3 g.row.G) c.type_bounds.sync-R c.type_bounds.sync-G
    (copied 2 g.row.K) (param 4 g.row.D) c.type_bounds.send-K c.type_bounds.send-D (codes "ldap_listener::beside::fn::serve_beside::replica+Self") (record { mir = named 6; lft = κs.1.1.1.1.1.1.0 }) (record { mir = named 8; lft = κs.1.1.1.1.1.1.1.1.0 }) in
    param_send 1 _ (arg_send _ no _ given)

pub join-followed-requires-send-A : goal.join-followed-requires-send-A
join-followed-requires-send-A g c κs within =
    let followed = followed_send (param 4 g.row.D) c.type_bounds.send-D in
    param_send 3 _ (arg_send _ no _ followed)
