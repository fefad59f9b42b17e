use Rattle.ldap_session.proofs.Writers.{only_by_name, by_name_enough}
use Rattle.ldap_session.proofs.laws.the_configured_bind_alone_binds.Goals as goal

pub returns-clause-only : goal.returns-clause-only
returns-clause-only c = only_by_name

pub returns-clause-enough : goal.returns-clause-enough
returns-clause-enough c = by_name_enough
