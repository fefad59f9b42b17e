use Rattle.std.proofs.Common.{refl}
use Rattle.ldap_server.proofs.connection.Connection.end_event.Goals as goal

pub returns-clause-left : goal.returns-clause-left
returns-clause-left g c = rw c.ended_by-ended.ensures refl
