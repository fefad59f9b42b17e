-- Calls of one port, one after the other in one turn.
use Rattle.std.proofs.Common.{◌≡◌, ℕ, List, [], ◌∷◌, ◌++◌, None, Some, ap, sym, ◌∙◌, refl, subst, append_assoc}
use Rattle.ldap_messages.specs.declared.message.Message.{Message}
use Rattle.turn_cell.proofs.Each.{every-append}
use Rattle.sync_provider.specs.HandingOut.{reply_of}
use Rattle.sync_provider.specs.Ports.{PortState, HandOutReplies, MessagesReply, noted_all}
use Rattle.sync_provider.specs.declared.handed.Handed.{Handed}
use Rattle.sync_provider.specs.declared.handed.Handed.TheVariants as handed
use Rattle.sync_provider.specs.declared.handed_messages.HandOutStop.{HandOutStop}
use Rattle.sync_provider.proofs.Several.{messages_more, messages_stop}
use Rattle.shared_directory.specs.Desks.{NumberedState, port_in, port_journal, IsAnswered}
use Rattle.shared_directory.proofs.Answered.{unchanged}
use Rattle.shared_directory.proofs.Turns.{noted_all-append}

-- what two calls add is what one call adds that is answered as both
pub answered_then : (number : ℕ) (a b c : NumberedState) (First Next Both : PortState → PortState → Type 0)
    → IsAnswered number a b First → IsAnswered number b c Next → ((p q r : PortState) → First p q → Next q r → Both p r)
    → IsAnswered number a c Both
answered_then number a b c First Next Both x y both = record {
  called = record {
    added = x.called.added ++ y.called.added;
    own = every-append (λ e. e.1 ≡ number) x.called.added y.called.added x.called.own y.called.own;
    journal = y.called.journal
        ∙ ap (λ js. js ++ y.called.added) x.called.journal
        ∙ append_assoc (port_journal a) x.called.added y.called.added;
    others = λ other differs ports.
        y.called.others other differs ports
        ∙ ap (λ p. noted_all p y.called.added) (x.called.others other differs ports)
        ∙ sym (noted_all-append (port_in other ports a) x.called.added y.called.added);
  };
  replies = λ ports. both (port_in number ports a) (port_in number ports b) (port_in number ports c) (x.replies ports) (y.replies ports);
}

module _ (number search : ℕ) where
  -- each reply so far was a message
  abbrev pub AreMessages : NumberedState → List Message → NumberedState → Type 0
  AreMessages old messages new = IsAnswered number old new (λ p q. MessagesReply p search messages None q)

  -- no message leaves all as it is
  pub no_messages : (d : NumberedState) (messages : List Message) → messages ≡ [] → AreMessages d messages d
  no_messages d messages none =
      subst (λ ms. AreMessages d ms d) (sym none) (unchanged number d (λ p q. MessagesReply p search [] None q) (λ ports. refl))

  module _ (old mid new : NumberedState) (messages : List Message) (given : AreMessages old messages mid) (reply : Handed)
      (answered : IsAnswered number mid new (λ p q. HandOutReplies p search reply q)) where
    -- one message more
    pub message_more : (message : Message) (all : List Message) → reply ≡ handed.Message message → all ≡ messages ++ message ∷ [] → AreMessages old all new
    message_more message all is pushed =
        subst (λ ms. AreMessages old ms new) (sym pushed)
        (answered_then number old mid new (λ p q. MessagesReply p search messages None q) (λ p q. HandOutReplies p search reply q)
        (λ p q. MessagesReply p search (messages ++ message ∷ []) None q) given answered
        (λ p q r before replied. messages_more search messages message p q r before (subst (λ one. HandOutReplies q search one r) is replied)))

    -- the reply that stops them
    pub messages_stopped : (stop : HandOutStop) → reply_of stop ≡ Some reply → IsAnswered number old new (λ p q. MessagesReply p search messages (reply_of stop) q)
    messages_stopped stop is =
        subst (λ one. IsAnswered number old new (λ p q. MessagesReply p search messages one q)) (sym is)
        (answered_then number old mid new (λ p q. MessagesReply p search messages None q) (λ p q. HandOutReplies p search reply q)
        (λ p q. MessagesReply p search messages (Some reply) q) given answered (messages_stop search messages reply))

-- the same call, of which more is known
pub answered_as : (number : ℕ) (old new : NumberedState) (First Both : PortState → PortState → Type 0)
    → ((p q : PortState) → First p q → Both p q) → IsAnswered number old new First → IsAnswered number old new Both
answered_as number old new First Both more answered = record {
  called = answered.called;
  replies = λ ports. more (port_in number ports old) (port_in number ports new) (answered.replies ports);
}
