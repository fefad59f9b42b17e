use Rattle.ldap_server.specs.Seen.{point_in}
use Rattle.ldap_server.proofs.Performing.{same_sent}
use Rattle.ldap_server.proofs.session.Session.refuse.Goals as goal

pub returns-in-Some-clause-sends : goal.returns-in-Some-clause-sends
returns-in-Some-clause-sends g c = rw c.in-Some.is c.respond.ensures.sends

pub returns-in-None-clause-sends : goal.returns-in-None-clause-sends
returns-in-None-clause-sends g c = rw c.in-None.is (same_sent (point_in g.P.Port.state c.args.self.now))
