use Rattle.ldap_session.proofs.Cutting.{cut_anyhow}
use Rattle.ldap_session.proofs.laws.cuts_change_no_message.Goals as goal

pub returns : goal.returns
returns c = cut_anyhow
