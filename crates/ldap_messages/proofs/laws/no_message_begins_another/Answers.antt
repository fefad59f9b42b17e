use Rattle.ldap_messages.proofs.PrefixLemmas.{one_message, message_cut}
use Rattle.ldap_messages.proofs.laws.no_message_begins_another.Goals as goal

pub returns-clause-one : goal.returns-clause-one
returns-clause-one c = one_message

pub returns-clause-cut : goal.returns-clause-cut
returns-clause-cut c = message_cut
