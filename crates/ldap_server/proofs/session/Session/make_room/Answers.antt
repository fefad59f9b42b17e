use Rattle.std.proofs.Common.{ap}
use Rattle.ldap_server.specs.Seen.{point_in}
use Rattle.ldap_server.proofs.Performing.{with_sent}
use Rattle.ldap_server.proofs.session.Session.make_room.Goals as goal

pub returns-clause-same : goal.returns-clause-same
returns-clause-same g c = ap (λ sent. with_sent (point_in g.P.Port.state c.args.self.now) sent) c.reserve.ensures.items
