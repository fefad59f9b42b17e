use Rattle.ldap_server.specs.Seen.{point_in}
use Rattle.ldap_server.proofs.Performing.{part_none, sends_of}
use Rattle.ldap_server.proofs.session.Session.send_notice.Goals as goal

pub returns-in_default-clause-sends : goal.returns-in_default-clause-sends
returns-in_default-clause-sends g c = part_none (point_in g.P.Port.state c.args.self.now)

pub returns-clause-sends : goal.returns-clause-sends
returns-clause-sends g c =
    sends_of _ (point_in g.P.Port.state c.args.self.now) c.extend_from_slice.result c.extend_from_slice.new.self.items
    (rw (c.as_slice.ensures, c.in-Ok.ensures) at c.extend_from_slice.ensures.items)
