-- Messages: their reading is exact.
use Rattle.ldap_ber.proofs.ExactLemmas.{Exact, both_exact, sequence_exact}
use Rattle.ldap_parts.specs.Faults.{place_of}
use Rattle.ldap_parts.proofs.ComponentLemmas.{range_exact}
use Rattle.ldap_parts.proofs.ControlLemmas.{controls_exact}
use Rattle.ldap_messages.specs.Whole.{MessageForm, message_at}
use Rattle.ldap_messages.proofs.OperationLemmas.{operation_exact}

-- what is read is what the form says, and nothing else
pub message_exact : Exact MessageForm message_at
unfolding MessageForm message_at
message_exact = sequence_exact place_of 48 _ _ (both_exact _ _ _ _ (range_exact 0 2147483647 2) (both_exact _ _ _ _ operation_exact controls_exact))
