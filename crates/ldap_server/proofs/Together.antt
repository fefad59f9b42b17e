-- Messages that the port hands out of one search together, and that are then sent.
use Rattle.std.proofs.Common.{◌≡◌, ◌<◌, ℕ, Bool, List, [], ◌∷◌, ◌++◌, length, map, Option, Some, None, Result, Ok, Err, refl, sym, ap, ◌∙◌, subst, append_assoc, arith}
use Rattle.std.specs.List.{flat_map}
use Rattle.std.proofs.lemmas.List.{append-nil}
use Rattle.std.proofs.lemmas.List.Concat.{flat_map-append}
use Rattle.std.proofs.lemmas.Option.{none-some, same_Some}
use Rattle.ldap_messages.specs.declared.message.Message.{Message}
use Rattle.sync_provider.specs.HandingOut.{reply_of}
use Rattle.sync_provider.specs.Ports.{PortState, HandOutReplies, IsLater, IsReplied, IsWithin, MessagesReply, SeveralReplies}
use Rattle.sync_provider.specs.declared.handed.Handed.{Handed}
use Rattle.sync_provider.specs.declared.handed.Handed.TheVariants as handed
use Rattle.sync_provider.specs.declared.handed_messages.HandedMessages.{HandedMessages}
use Rattle.sync_provider.specs.declared.handed_messages.HandOutStop.{HandOutStop}
use Rattle.sync_provider.specs.declared.handed_messages.HandOutStop.TheVariants as stops
use Rattle.sync_provider.proofs.Journals.{replied_alone}
use Rattle.ldap_server.specs.PortCalls.{PortCall, Exchanged, HandedOut}
use Rattle.ldap_server.specs.HandOuts.Stop.{Ends, Enough, Unknown, Waits}
use Rattle.ldap_server.specs.HandOuts.{AreOfGrammar, EndsInGrammar, HasTurn, IsIn, SendsLast, Stop, TurnEnds, given, octets_of, stays_open, stop_asked, stop_of, stop_sent}
use Rattle.ldap_server.specs.Points.{Point, Begun}
use Rattle.ldap_server.specs.declared.session_search.SessionSearch.{SessionSearch}
use Rattle.ldap_server.proofs.Exchanging.{exchanged_one}
use Rattle.ldap_server.proofs.Performing.{IsPart, part_more, with_sent}
use Rattle.ldap_server.proofs.Spelled.{end_spelled, message_spelled}

-- ---- what was asked

-- the question after the messages, if there was one
abbrev pub asked_last : ℕ → Option Handed → List PortCall
asked_last number None = []
asked_last number (Some reply) = HandedOut number reply ∷ []

abbrev pub asked_of : ℕ → List Message → Option Handed → List PortCall
asked_of number messages reply = map (given number) messages ++ asked_last number reply

asked_on : (number : ℕ) (messages : List Message) (reply : Option Handed) (old new : PortState)
    → MessagesReply old number messages reply new → Exchanged old (asked_of number messages reply) new
asked_on number [] None old new is = is
asked_on number [] (Some reply) old new replied =
    exchanged_one (HandedOut number reply) old new (replied_alone old (λ p. HandOutReplies p number reply new) replied)
asked_on number (message ∷ messages) reply old new all =
    (all.0, replied_alone old (λ p. HandOutReplies p number (handed.Message message) all.0) all.1, asked_on number messages reply all.0 new all.2)

-- entries of other ports came in before the first question
asked_first : (number most : ℕ) (messages : List Message) (stop : HandOutStop) (old place new : PortState) → 0 < most → IsLater old place
    → IsWithin most (length messages) stop → MessagesReply place number messages (reply_of stop) new
    → Exchanged old (asked_of number messages (reply_of stop)) new
asked_first number most [] stops.Enough old place new some later within replied = absurd (omega (arith, some, within))
asked_first number most [] (stops.Ended code message) old place new some later within replied =
    exchanged_one (HandedOut number (handed.Ended code message)) old new (record { place = place; later = later; replies = replied })
asked_first number most [] stops.Nothing old place new some later within replied =
    exchanged_one (HandedOut number handed.Nothing) old new (record { place = place; later = later; replies = replied })
asked_first number most [] stops.NoSuchSearch old place new some later within replied =
    exchanged_one (HandedOut number handed.NoSuchSearch) old new (record { place = place; later = later; replies = replied })
asked_first number most [] stops.NoMemory old place new some later within replied =
    exchanged_one (HandedOut number handed.NoMemory) old new (record { place = place; later = later; replies = replied })
asked_first number most (message ∷ messages) stop old place new some later within all =
    (all.0, record { place = place; later = later; replies = all.1 }, asked_on number messages (reply_of stop) all.0 new all.2)

-- ---- what was given is of the grammar of messages

messages_spelled : (number : ℕ) (messages : List Message) (reply : Option Handed) (p new : PortState)
    → MessagesReply p number messages reply new → AreOfGrammar messages
messages_spelled number [] reply p new all = tt
messages_spelled number (message ∷ messages) reply p new all =
    (message_spelled p all.0 number message all.1, messages_spelled number messages reply all.0 new all.2)

last_spelled : (number : ℕ) (messages : List Message) (stop : HandOutStop) (p new : PortState)
    → MessagesReply p number messages (reply_of stop) new → EndsInGrammar stop
last_spelled number messages stops.Enough p new all = tt
last_spelled number [] (stops.Ended code message) p new replied = end_spelled p new number code message replied
last_spelled number (first ∷ messages) (stops.Ended code message) p new all =
    last_spelled number messages (stops.Ended code message) all.0 new all.2
last_spelled number messages stops.Nothing p new all = tt
last_spelled number messages stops.NoSuchSearch p new all = tt
last_spelled number messages stops.NoMemory p new all = tt

-- ---- what was sent

-- no message adds nothing to what was sent
pub none_sent : (p : Point) → p ≡ with_sent p (p.sent ++ flat_map octets_of [])
none_sent p = ap (λ sent. with_sent p sent) (sym (append-nil p.sent))

-- one message more
pub one_sent : (messages : List Message) (message : Message) (old mid new : Point)
    → mid ≡ with_sent old (old.sent ++ flat_map octets_of messages) → new ≡ with_sent mid (mid.sent ++ octets_of message)
    → new ≡ with_sent old (old.sent ++ flat_map octets_of (messages ++ message ∷ []))
one_sent messages message old mid new before one =
    let more : flat_map octets_of (messages ++ message ∷ []) ≡ flat_map octets_of messages ++ octets_of message =
    flat_map-append octets_of messages (message ∷ []) ∙ ap (λ ys. flat_map octets_of messages ++ ys) (append-nil (octets_of message)) in
    one ∙ ap (λ p. with_sent p (p.sent ++ octets_of message)) before
    ∙ ap (λ sent. with_sent old sent) (append_assoc old.sent (flat_map octets_of messages) (octets_of message) ∙ ap (λ ys. old.sent ++ ys) (sym more))

-- the messages from here on are of the grammar
pub rest_of_grammar : (before after : List Message) → AreOfGrammar (before ++ after) → AreOfGrammar after
rest_of_grammar [] after all = all
rest_of_grammar (message ∷ before) after all = rest_of_grammar before after all.1

-- ---- a turn

-- what comes after the messages, as what was asked last has it
known_stop : (number count : ℕ) (stop : HandOutStop) (last : Stop) → stop_of stop ≡ Some last
    → (asked_last number (reply_of stop) ≡ stop_asked number last) × (IsWithin 64 count stop → IsIn count last)
known_stop number count stops.Enough last is =
    subst (λ s. ([] ≡ stop_asked number s) × (IsWithin 64 count stops.Enough → IsIn count s)) (same_Some Enough last is) (refl, λ within. within)
known_stop number count (stops.Ended code message) last is =
    subst (λ s. (HandedOut number (handed.Ended code message) ∷ [] ≡ stop_asked number s) × (IsWithin 64 count (stops.Ended code message) → IsIn count s))
    (same_Some (Ends code message) last is) (refl, λ within. within)
known_stop number count stops.Nothing last is =
    subst (λ s. (HandedOut number handed.Nothing ∷ [] ≡ stop_asked number s) × (IsWithin 64 count stops.Nothing → IsIn count s)) (same_Some Waits last is)
    (refl, λ within. within)
known_stop number count stops.NoSuchSearch last is =
    subst (λ s. (HandedOut number handed.NoSuchSearch ∷ [] ≡ stop_asked number s) × (IsWithin 64 count stops.NoSuchSearch → IsIn count s)) (same_Some Unknown last is)
    (refl, λ within. within)
known_stop number count stops.NoMemory last is = absurd (none-some last is)

-- the port gave the messages, and why there are no more
module _ (search : SessionSearch) (old : Point) (port : PortState) (all : HandedMessages)
    (replied : IsReplied old.port (λ p. SeveralReplies p search.number 64 all port)) where
  abbrev messages : List Message
  messages = all.messages.items

  abbrev asked : List PortCall
  asked = asked_of search.number messages (reply_of all.stop)

  exchanged : Exchanged old.port asked port
  exchanged =
      asked_first search.number 64 messages all.stop old.port replied.place port (omega arith) replied.later replied.replies.within replied.replies.replies

  -- where the session is then
  abbrev pub given_at : Point
  given_at = record { port = port; session = old.session; sent = old.sent }

  -- each message that the port gave together with others has an encoding
  pub all_spelled : AreOfGrammar messages
  all_spelled = messages_spelled search.number messages (reply_of all.stop) replied.place port replied.replies.replies

  -- so has the last one, which ends the search
  pub end_of_grammar : EndsInGrammar all.stop
  end_of_grammar = last_spelled search.number messages all.stop replied.place port replied.replies.replies

  -- a part of them was sent
  pub part_sent : (new : Point) → IsPart given_at new → Begun old new
  part_sent new part = subst (λ p. Begun old p) (sym part.1) (record { asked = asked; exchanged = exchanged; octets = part.0; sent_is = refl })

  module _ (mid new : Point) (sent : mid ≡ with_sent given_at (old.sent ++ flat_map octets_of messages)) where
    all_sent : (stays : Bool) (last : Stop) → stop_of all.stop ≡ Some last → stays ≡ stays_open last → new ≡ record mid { sent = mid.sent ++ stop_sent last }
        → HasTurn search old stays new
    all_sent stays last is stays_is after =
        let known = known_stop search.number (length messages) all.stop last is in
        let P : Point → Type 0 = λ m. new ≡ with_sent m (m.sent ++ stop_sent last) in
        let there : new ≡ with_sent given_at ((old.sent ++ flat_map octets_of messages) ++ stop_sent last) = subst P sent after in
        subst (λ p. HasTurn search old stays p) (sym there)
        (record {
          asked = map (given search.number) messages ++ stop_asked search.number last;
          octets = flat_map octets_of messages ++ stop_sent last;
          turn = record {
            messages = messages;
            stop = last;
            bounded = known.1 replied.replies.within;
            asked_is = refl;
            sent_is = refl;
            stays_is = stays_is;
          };
          exchanged = subst (λ xs. Exchanged old.port (map (given search.number) messages ++ xs) port) known.0 exchanged;
          sent_is = append_assoc old.sent (flat_map octets_of messages) (stop_sent last);
          same = refl;
        })

    -- the search has had its turn once what came after its messages is sent
    pub turn_sent : {E : Type 0} (r : Result Bool E) → SendsLast all.stop mid r new → TurnEnds search old r new
    turn_sent (Ok stays) last = all_sent stays last.0 last.1 last.2 last.3
    turn_sent (Err fault) part = part_sent new (part_more (flat_map octets_of messages) given_at mid new sent part)
