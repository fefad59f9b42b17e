use Rattle.ldap_ber.proofs.LengthLemmas.{length_shortest}
use Rattle.ldap_ber.proofs.ElementLemmas.{element_spells}
use Rattle.ldap_ber.proofs.IntegerLemmas.{integer_back, integer_shortest}
use Rattle.ldap_ber.proofs.laws.canonical_spellings.Goals as goal

pub returns-clause-element : goal.returns-clause-element
returns-clause-element c = element_spells

pub returns-clause-length : goal.returns-clause-length
returns-clause-length c = length_shortest

pub returns-clause-integer : goal.returns-clause-integer
returns-clause-integer c = integer_back

pub returns-clause-shortest : goal.returns-clause-shortest
returns-clause-shortest c = integer_shortest
