use Rattle.ldap_session.proofs.CutEnds.{end_anyhow}
use Rattle.ldap_session.proofs.laws.the_input_decides_the_end.Goals as goal

pub returns : goal.returns
returns c = end_anyhow
