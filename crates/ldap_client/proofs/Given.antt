-- The messages that a client has given since its link was seen first.
use Rattle.std.proofs.Common.{◌≡◌, ℕ, List, [], ◌∷◌, ◌++◌, Option, Result, Ok, Err, refl, sym, ap, subst, ◌∙◌, append_assoc, arith, map}
use Rattle.std.specs.Io.KnownBytes.{Appends, Consumes, IsAtEnd}
use Rattle.std.proofs.KnownBytes.{Appends-nil, Appends-trans, Consumes-nil, Consumes-trans}
use Rattle.std.proofs.lemmas.List.{append-nil}
use Rattle.ldap_messages.specs.Whole.{MessageValue, message_value}
use Rattle.ldap_messages.specs.declared.message.Message.{Message}
use Rattle.ldap_session.specs.Incoming.{Incoming, Arrived, Wrong, incoming_in, rest_of}
use Rattle.ldap_client.specs.Clients.{Asks, ClientState, GivesNext, HasGiven, HasRead, IsNext, Reads, fresh}
use Rattle.ldap_client.specs.Links.{LinkState}
use Rattle.ldap_client.specs.Messages.{BeginsWith, HasNoMessage, IsWrongAt}
use Rattle.ldap_client.specs.declared.fault.ClientFault.{ClientFault}
use Rattle.ldap_client.specs.declared.fault.ClientFault.TheVariants.{ReadFault, WriteFault, PeerMessage, EndOfInput, NoMemory}

-- nothing was given yet
pub given_none : (link : LinkState) → HasGiven link [] (fresh link)
given_none link = record {
  bytes = [];
  taken = Consumes-nil link.left;
  read = Appends-nil link.read;
  later = omega arith;
  given = λ after. refl;
  rest = λ after. refl;
}

-- one more arrived
pub arrived-push : (messages : List MessageValue) (whole : MessageValue) (more : List Incoming) → map Arrived messages ++ (Arrived whole ∷ more) ≡ map Arrived (messages ++ whole ∷ []) ++ more
arrived-push [] whole more = refl
arrived-push (first ∷ messages) whole more = ap (λ (later : List Incoming). Arrived first ∷ later) (arrived-push messages whole more)

-- more was read, of which the first message was given
pub given_more : (first : LinkState) (messages : List MessageValue) (old new : ClientState) (bytes : List ℕ) (whole : MessageValue)
    → HasGiven first messages old → Reads old.link bytes new.link → BeginsWith (old.kept ++ bytes) whole new.kept → HasGiven first (messages ++ whole ∷ []) new
given_more first messages old new bytes whole so_far reads begins = record {
  bytes = so_far.bytes ++ bytes;
  taken = Consumes-trans first.left old.link.left new.link.left so_far.bytes bytes so_far.taken reads.taken;
  read = Appends-trans first.read old.link.read new.link.read so_far.bytes bytes so_far.read reads.read;
  later = omega (arith, so_far.later, reads.later);
  given = λ after.
      ap incoming_in (append_assoc so_far.bytes bytes after)
      ∙ so_far.given (bytes ++ after)
      ∙ ap (λ (kept : List ℕ). map Arrived messages ++ incoming_in kept) (sym (append_assoc old.kept bytes after))
      ∙ ap (λ (later : List Incoming). map Arrived messages ++ later) (begins.messages after)
      ∙ arrived-push messages whole (incoming_in (new.kept ++ after));
  rest = λ after.
      ap rest_of (append_assoc so_far.bytes bytes after)
      ∙ so_far.rest (bytes ++ after)
      ∙ ap rest_of (sym (append_assoc old.kept bytes after))
      ∙ begins.rest after;
}

-- more was read, and is kept
given_kept : (first : LinkState) (messages : List MessageValue) (old new : ClientState) (bytes : List ℕ)
    → HasGiven first messages old → Reads old.link bytes new.link → new.kept ≡ old.kept ++ bytes → HasGiven first messages new
given_kept first messages old new bytes so_far reads kept = record {
  bytes = so_far.bytes ++ bytes;
  taken = Consumes-trans first.left old.link.left new.link.left so_far.bytes bytes so_far.taken reads.taken;
  read = Appends-trans first.read old.link.read new.link.read so_far.bytes bytes so_far.read reads.read;
  later = omega (arith, so_far.later, reads.later);
  given = λ after.
      ap incoming_in (append_assoc so_far.bytes bytes after)
      ∙ so_far.given (bytes ++ after)
      ∙ ap (λ (left : List ℕ). map Arrived messages ++ incoming_in left) (longer after);
  rest = λ after. ap rest_of (append_assoc so_far.bytes bytes after) ∙ so_far.rest (bytes ++ after) ∙ ap rest_of (longer after);
}
  where
    longer : (after : List ℕ) → old.kept ++ (bytes ++ after) ≡ new.kept ++ after
    longer after = sym (append_assoc old.kept bytes after) ∙ ap (λ (left : List ℕ). left ++ after) (sym kept)

-- a message that is given is the next one
pub given_next : (first : LinkState) (messages : List MessageValue) (old new : ClientState) (message : Message)
    → HasGiven first messages old → GivesNext old (Ok message) new → HasGiven first (messages ++ message_value message ∷ []) new
given_next first messages old new message so_far gives = given_more first messages old new gives.bytes (message_value message) so_far gives.reads gives.next

-- a fault takes nothing of what was read
kept_at : (bytes : List ℕ) (before : LinkState) (fault : ClientFault) (new : ClientState) → IsNext bytes before (Err fault) new → new.kept ≡ bytes
kept_at bytes before (PeerMessage place) new next = next.1
kept_at bytes before EndOfInput new next = next.2
kept_at bytes before ReadFault new next = next.2
kept_at bytes before NoMemory new next = next
kept_at bytes before WriteFault new next = absurd next

-- after a fault they are the same
pub given_fault : (first : LinkState) (messages : List MessageValue) (old new : ClientState) (fault : ClientFault)
    → HasGiven first messages old → GivesNext old (Err fault) new → HasGiven first messages new
given_fault first messages old new fault so_far gives =
    given_kept first messages old new gives.bytes so_far gives.reads (kept_at (old.kept ++ gives.bytes) old.link fault new gives.next)

-- what is written changes nothing of what was read
pub given_asked : (first : LinkState) (messages : List MessageValue) (octets : List ℕ) (old new : ClientState) (result : Result Unit ClientFault)
    → HasGiven first messages old → Asks octets old result new → HasGiven first messages new
given_asked first messages octets old new result so_far asks = record {
  bytes = so_far.bytes;
  taken = subst (λ (left : Option (List ℕ)). Consumes first.left left so_far.bytes) (sym asks.left) so_far.taken;
  read = subst (λ (read : Option (List ℕ)). Appends first.read read so_far.bytes) (sym asks.read) so_far.read;
  later = omega (arith, so_far.later, asks.read_faults);
  given = λ after. so_far.given after ∙ ap (λ (left : List ℕ). map Arrived messages ++ incoming_in (left ++ after)) (sym asks.kept);
  rest = λ after. so_far.rest after ∙ ap (λ (left : List ℕ). rest_of (left ++ after)) (sym asks.kept);
}

-- ---- all bytes that were read

-- what was given, and what is kept, are all messages of what was read
pub all_read : (first : LinkState) (messages : List MessageValue) (now : ClientState) → HasGiven first messages now → HasRead first now.link (map Arrived messages ++ incoming_in now.kept)
all_read first messages now so_far = record {
  bytes = so_far.bytes;
  taken = so_far.taken;
  read = so_far.read;
  messages = ap incoming_in (sym (append-nil so_far.bytes)) ∙ so_far.given [] ∙ ap (λ (left : List ℕ). map Arrived messages ++ incoming_in left) (append-nil now.kept);
}

-- with what is kept the messages are these
read_as : (first : LinkState) (messages : List MessageValue) (now : ClientState) (later : List Incoming) → HasGiven first messages now → incoming_in now.kept ≡ later
    → HasRead first now.link (map Arrived messages ++ later)
read_as first messages now later so_far is = subst (λ (more : List Incoming). HasRead first now.link (map Arrived messages ++ more)) is (all_read first messages now so_far)

-- after them stands what is refused
pub read_refused : (first : LinkState) (messages : List MessageValue) (old new : ClientState) (place : ℕ)
    → HasGiven first messages old → GivesNext old (Err (PeerMessage place)) new → HasRead first new.link (map Arrived messages ++ Wrong place ∷ [])
read_refused first messages old new place so_far gives =
    let wrong : IsWrongAt new.kept place = subst (λ (kept : List ℕ). IsWrongAt kept place) (sym gives.next.1) gives.next.0 in
    read_as first messages new (Wrong place ∷ []) (given_fault first messages old new (PeerMessage place) so_far gives)
    (ap incoming_in (sym (append-nil new.kept)) ∙ wrong [])

-- and nothing, where the input ended
pub read_ended : (first : LinkState) (messages : List MessageValue) (old new : ClientState)
    → HasGiven first messages old → GivesNext old (Err EndOfInput) new → HasRead first new.link (map Arrived messages) × IsAtEnd new.link.left
read_ended first messages old new so_far gives =
    let none : HasNoMessage new.kept = subst HasNoMessage (sym gives.next.2) gives.next.0 in (
      subst (λ (all : List Incoming). HasRead first new.link all) (append-nil (map Arrived messages))
          (read_as first messages new [] (given_fault first messages old new EndOfInput so_far gives) none),
      gives.next.1,
    )
