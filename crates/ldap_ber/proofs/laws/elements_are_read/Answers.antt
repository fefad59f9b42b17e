use Rattle.ldap_ber.proofs.ExactLemmas.{octets_exact}
use Rattle.ldap_ber.proofs.laws.elements_are_read.Goals as goal

pub returns-clause-found : goal.returns-clause-found
returns-clause-found c = λ tag. (octets_exact tag).found

pub returns-clause-only : goal.returns-clause-only
returns-clause-only c = λ tag. (octets_exact tag).only
