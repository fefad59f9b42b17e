use Rattle.std.proofs.Common.{subst, sym}
use Rattle.ldap_messages.specs.declared.protocol.Protocol.{Protocol}
use Rattle.ldap_messages.specs.Operation.{IsOfGrammar, operation_of}
use Rattle.provider_tests.proofs.spellings.is_entry_or_end.Goals as goal

-- the grammar asks nothing of an entry
pub returns-in-SearchResultEntry : goal.returns-in-SearchResultEntry
unfolding operation_of
returns-in-SearchResultEntry c = λ t. subst (λ (p : Protocol). IsOfGrammar (operation_of p)) (sym c.in-SearchResultEntry.is) tt

-- and of an end that it refers to one place at least, if it has a referral
pub returns-in-SearchResultDone : goal.returns-in-SearchResultDone
unfolding operation_of
returns-in-SearchResultDone c = λ t. subst (λ (p : Protocol). IsOfGrammar (operation_of p)) (sym c.in-SearchResultDone.is) (c.has_no_referral.ensures t)
