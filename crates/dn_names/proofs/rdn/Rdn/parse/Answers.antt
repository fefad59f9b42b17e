-- The RDN of a text is that of its characters.
use Rattle.std.proofs.Common.{rules}
use Rattle.dn_names.specs.Reading.{rdn_of_text}
use Rattle.dn_names.proofs.rdn.Rdn.parse.Goals as goal

pub returns-clause-ok : goal.returns-clause-ok
unfolding rdn_of_text
returns-clause-ok c = search rules

pub returns-clause-fault : goal.returns-clause-fault
unfolding rdn_of_text
returns-clause-fault c = search rules
