-- What a client has read, in the words of a search.
use Rattle.std.proofs.Common.{◌≡◌, ℕ, List, [], ◌∷◌, ◌++◌, map, Option, Ok, Err, inl, inr, sym, ap, subst, ◌∙◌, append_assoc}
use Rattle.std.proofs.KnownBytes.{Appends-trans}
use Rattle.std.proofs.lemmas.List.{append-nil}
use Rattle.std.specs.Io.KnownBytes.{Appends}
use Rattle.ldap_client.proofs.Given.{all_read, arrived-push, given_fault, read_ended, read_refused}
use Rattle.ldap_client.specs.Clients.{ClientState, GivesNext, HasGiven, HasRead}
use Rattle.ldap_client.specs.Links.{LinkState}
use Rattle.ldap_client.specs.declared.fault.ClientFault.{ClientFault}
use Rattle.ldap_client.specs.declared.fault.ClientFault.TheVariants.{EndOfInput, NoMemory, PeerMessage, ReadFault}
use Rattle.ldap_messages.specs.Whole.{MessageValue}
use Rattle.ldap_messages.specs.declared.message.Message.{Message}
use Rattle.ldap_session.specs.Incoming.{Arrived, Incoming, incoming_in}
use Rattle.sync_io.proofs.Sides.{rose_later}
use Rattle.sync_io.specs.Sink.{AppendsPrefix}
use Rattle.ldap_search.specs.Talks.{EndsEarly, HasReadAtLeast, HasReadUpTo, IsLinkSound, ReadingFails}

-- some bytes were appended, and then a prefix of others
pub prefix_after : (a b c : Option (List ℕ)) (xs ys : List ℕ) → Appends a b xs → AppendsPrefix b c ys → AppendsPrefix a c (xs ++ ys)
prefix_after a b c xs ys one other = (
  xs ++ other.0,
  other.1,
  ap (λ (zs : List ℕ). xs ++ zs) other.2 ∙ sym (append_assoc xs other.0 other.1),
  Appends-trans a b c xs other.0 one other.3,
)

-- the message that was given last
pub read_up_to : (first : LinkState) (messages : List MessageValue) (whole : MessageValue) (now : ClientState) → HasGiven first (messages ++ whole ∷ []) now
    → HasReadUpTo first now.link messages whole
read_up_to first messages whole now given = (
  incoming_in now.kept,
  subst (λ (all : List Incoming). HasRead first now.link all) (sym (arrived-push messages whole (incoming_in now.kept))) (all_read first (messages ++ whole ∷ []) now given),
)

-- the messages before it
pub read_before : (first : LinkState) (messages : List MessageValue) (whole : MessageValue) (now : ClientState) → HasGiven first (messages ++ whole ∷ []) now
    → HasReadAtLeast first now.link messages
read_before first messages whole now given =
    let read = read_up_to first messages whole now given in (Arrived whole ∷ read.0, read.1)

-- the messages that were given, whatever stopped the next one
pub read_so_far : (first : LinkState) (messages : List MessageValue) (old new : ClientState) (fault : ClientFault) → HasGiven first messages old → GivesNext old (Err fault) new
    → HasReadAtLeast first new.link messages
read_so_far first messages old new fault so_far gives =
    (incoming_in new.kept, all_read first messages new (given_fault first messages old new fault so_far gives))

-- what comes is refused, or came to an end
pub refused_early : (first : LinkState) (messages : List MessageValue) (old new : ClientState) (place : ℕ) → HasGiven first messages old → GivesNext old (Err (PeerMessage place)) new
    → EndsEarly first new.link messages
refused_early first messages old new place so_far gives = inl (place, read_refused first messages old new place so_far gives)

-- an input that ends where a message is due ended before the search did
pub ended_early : (first : LinkState) (messages : List MessageValue) (old new : ClientState) → HasGiven first messages old → GivesNext old (Err EndOfInput) new
    → EndsEarly first new.link messages
ended_early first messages old new so_far gives = inr (read_ended first messages old new so_far gives)

-- a read failed, and no message was left
pub reading_fails : (first : LinkState) (messages : List MessageValue) (old new : ClientState) → HasGiven first messages old → GivesNext old (Err ReadFault) new
    → ReadingFails first new.link messages
reading_fails first messages old new so_far gives =
    let given = given_fault first messages old new ReadFault so_far gives in
    let none : incoming_in new.kept ≡ [] = ap incoming_in gives.next.2 ∙ gives.next.0 in (
      subst (λ (all : List Incoming). HasRead first new.link all) (ap (λ (more : List Incoming). map Arrived messages ++ more) none ∙ append-nil (map Arrived messages))
          (all_read first messages new given),
      rose_later first.read_faults old.link.read_faults new.link.read_faults so_far.later gives.next.1,
    )

-- no call of a link failed over which a message came
pub still_sound : (first : LinkState) (old new : ClientState) (message : Message) → IsLinkSound first old.link → GivesNext old (Ok message) new → IsLinkSound first new.link
still_sound first old new message sound gives = (gives.faultless (λ e. let never : ⊥ = cc in never) ∙ sound.0, gives.reads.write_faults ∙ sound.1)

-- nor where what came is refused
pub sound_refused : (first : LinkState) (old new : ClientState) (place : ℕ) → IsLinkSound first old.link → GivesNext old (Err (PeerMessage place)) new → IsLinkSound first new.link
sound_refused first old new place sound gives = (gives.faultless (λ e. let never : ⊥ = cc in never) ∙ sound.0, gives.reads.write_faults ∙ sound.1)

-- nor where the input came to an end
pub sound_ended : (first : LinkState) (old new : ClientState) → IsLinkSound first old.link → GivesNext old (Err EndOfInput) new → IsLinkSound first new.link
sound_ended first old new sound gives = (gives.faultless (λ e. let never : ⊥ = cc in never) ∙ sound.0, gives.reads.write_faults ∙ sound.1)

-- nor where memory ran out
pub sound_stopped : (first : LinkState) (old new : ClientState) → IsLinkSound first old.link → GivesNext old (Err NoMemory) new → IsLinkSound first new.link
sound_stopped first old new sound gives = (gives.faultless (λ e. let never : ⊥ = cc in never) ∙ sound.0, gives.reads.write_faults ∙ sound.1)
