use Rattle.ldap_client.proofs.Given.{all_read, given_asked, given_fault, given_next, given_none, read_ended, read_refused}
use Rattle.ldap_client.proofs.laws.messages_are_given_in_order.Goals as goal

pub returns : goal.returns
returns c = record {
  none = given_none;
  asked = given_asked;
  next = given_next;
  fault = given_fault;
  read = all_read;
  refused = read_refused;
  ended = read_ended;
}
