use Rattle.std.proofs.Common.{refl}
use Rattle.ldap_server.proofs.connection.Connection.new.Goals as goal

pub returns-clause-ok : goal.returns-clause-ok
returns-clause-ok g c = rw (c.new.ensures.port, c.new.ensures.bound, c.new.ensures.searches, c.in-Ok.ensures.items) refl
