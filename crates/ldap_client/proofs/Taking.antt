-- What is taken of the bytes that were read.
use Rattle.std.proofs.Common.{◌≡◌, ℕ, ◌+◌, List, drop, Some, Ok, Err, refl, subst}
use Rattle.std.proofs.lemmas.List.{drop-drop}
use Rattle.ldap_messages.specs.Frame.{HasMeaning, message, read_of}
use Rattle.ldap_messages.specs.Whole.{message_value}
use Rattle.ldap_messages.specs.declared.fault.MessageFault.{MessageFault}
use Rattle.ldap_messages.specs.declared.fault.MessageFault.TheVariants.{BadMessage, TooLong, NoMemory}
use Rattle.ldap_messages.specs.declared.message.Message.{Message}
use Rattle.ldap_client.specs.Messages.{BeginsWith}
use Rattle.ldap_client.specs.Receiving.{TakesFirst}
use Rattle.ldap_client.proofs.Messages.{begins_with, refused_at, too_long}

-- the next message was given
pub takes_message : (came : List ℕ) (given count : ℕ) (m : Message) → read_of (drop given came) ≡ message (message_value m) count
    → TakesFirst (drop given came) (Ok (Some m)) (drop (given + count) came)
takes_message came given count m is =
    subst (λ (left : List ℕ). BeginsWith (drop given came) (message_value m) left) (drop-drop count given came) (begins_with (drop given came) (message_value m) count is)

-- it is refused, or memory ran out
pub takes_fault : (bytes : List ℕ) (fault : MessageFault) → HasMeaning (Err fault) (read_of bytes) → TakesFirst bytes (Err fault) bytes
takes_fault bytes (BadMessage place) is = (refused_at bytes place is, refl)
takes_fault bytes TooLong is = (too_long bytes is, refl)
takes_fault bytes NoMemory is = refl
