use Rattle.ldap_messages.proofs.StableLemmas.{read_stays}
use Rattle.ldap_messages.proofs.laws.later_bytes_change_nothing.Goals as goal

pub returns : goal.returns
returns c = read_stays
