-- Bytes that were read and of which no message was given, and how messages are taken from them.
use Rattle.std.specs.Prelude.{◌≡◌, ℕ, List, drop, Option, Some, None, Result, Ok, Err}
use Rattle.ldap_messages.specs.Frame.{partial, read_of}
use Rattle.ldap_messages.specs.Whole.{message_value}
use Rattle.ldap_messages.specs.declared.fault.MessageFault.{MessageFault}
use Rattle.ldap_messages.specs.declared.fault.MessageFault.TheVariants.{BadMessage, TooLong, NoMemory}
use Rattle.ldap_messages.specs.declared.message.Message.{Message}
use Rattle.ldap_client.specs.Messages.{BeginsWith, IsWrongAt}
use Rattle.ldap_client.specs.declared.received.Received.{Received}

-- what follows the messages that were given
abbrev pub kept_in : Received → List ℕ
kept_in received = drop received.given received.came.items

-- the first message of some bytes, or why there is none, and what is kept of them
abbrev pub TakesFirst : List ℕ → Result (Option Message) MessageFault → List ℕ → Type 0
TakesFirst bytes (Ok None) left = (read_of bytes ≡ partial) × (left ≡ bytes)
TakesFirst bytes (Ok (Some message)) left = BeginsWith bytes (message_value message) left
TakesFirst bytes (Err (BadMessage place)) left = IsWrongAt bytes place × (left ≡ bytes)
TakesFirst bytes (Err TooLong) left = IsWrongAt bytes 0 × (left ≡ bytes)
TakesFirst bytes (Err NoMemory) left = left ≡ bytes
