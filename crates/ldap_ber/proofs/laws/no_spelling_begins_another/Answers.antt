use Rattle.ldap_ber.proofs.CutLemmas.{element_cut}
use Rattle.ldap_ber.proofs.ElementLemmas.{no_prefix}
use Rattle.ldap_ber.proofs.laws.no_spelling_begins_another.Goals as goal

pub returns-clause-cut : goal.returns-clause-cut
returns-clause-cut c = element_cut

pub returns-clause-one : goal.returns-clause-one
returns-clause-one c = no_prefix
