-- Messages that are handed out of one search together.
use Rattle.std.proofs.Common.{◌≡◌, ◌<◌, ℕ, List, [], ◌∷◌, ◌++◌, None, Some, refl, subst}
use Rattle.std.proofs.lemmas.Option.{none-some}
use Rattle.ldap_messages.specs.declared.message.Message.{Message}
use Rattle.sync_provider.specs.HandingOut.{reply_of}
use Rattle.sync_provider.specs.Ports.{PortState, HandOutReplies, IsWithin, MessagesReply}
use Rattle.sync_provider.specs.declared.handed.Handed.{Handed}
use Rattle.sync_provider.specs.declared.handed.Handed.TheVariants as handed
use Rattle.sync_provider.specs.declared.handed_messages.HandOutStop.{HandOutStop}
use Rattle.sync_provider.specs.declared.handed_messages.HandOutStop.TheVariants as stops

-- one message more
pub messages_more : (number : ℕ) (messages : List Message) (message : Message) (p mid new : PortState)
    → MessagesReply p number messages None mid → HandOutReplies mid number (handed.Message message) new
    → MessagesReply p number (messages ++ message ∷ []) None new
messages_more number [] message p mid new is replied = (new, subst (λ q. HandOutReplies q number (handed.Message message) new) is replied, refl)
messages_more number (first ∷ messages) message p mid new given replied =
    (given.0, given.1, messages_more number messages message given.0 mid new given.2 replied)

-- what is asked for after the messages
pub messages_stop : (number : ℕ) (messages : List Message) (reply : Handed) (p mid new : PortState)
    → MessagesReply p number messages None mid → HandOutReplies mid number reply new → MessagesReply p number messages (Some reply) new
messages_stop number [] reply p mid new is replied = subst (λ q. HandOutReplies q number reply new) is replied
messages_stop number (first ∷ messages) reply p mid new given replied = (given.0, given.1, messages_stop number messages reply given.0 mid new given.2 replied)

-- what is asked for last is no message
pub stop_within : (most count : ℕ) (stop : HandOutStop) (reply : Handed) → reply_of stop ≡ Some reply → count < most → IsWithin most count stop
stop_within most count stops.Enough reply is low = absurd (none-some reply is)
stop_within most count (stops.Ended code message) reply is low = low
stop_within most count stops.Nothing reply is low = low
stop_within most count stops.NoSuchSearch reply is low = low
stop_within most count stops.NoMemory reply is low = low
