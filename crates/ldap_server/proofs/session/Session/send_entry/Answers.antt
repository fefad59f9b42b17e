use Rattle.ldap_server.specs.Seen.{point_in}
use Rattle.ldap_server.proofs.Performing.{part_none}
use Rattle.ldap_server.proofs.Selections.{entry_spelled}
use Rattle.ldap_server.proofs.session.Session.send_entry.Goals as goal

pub returns-in_default-clause-sends : goal.returns-in_default-clause-sends
returns-in_default-clause-sends g c = part_none (point_in g.P.Port.state c.args.self.now)

pub send-requires : goal.send-requires
send-requires g c = entry_spelled _ _ c.in-Ok.ensures tt

pub returns-clause-sends : goal.returns-clause-sends
returns-clause-sends g c = rw c.in-Ok.ensures at c.send.ensures.sends
