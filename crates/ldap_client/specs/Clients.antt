-- What a client keeps, and what each of its calls does.
use Rattle.std.specs.Prelude.{◌≡◌, ◌≢◌, ◌⊎◌, ◌≤◌, ℕ, List, [], ◌++◌, map, Option, Some, None, Result, Ok, Err}
use Rattle.std.specs.Io.KnownBytes.{Appends, Consumes, IsAtEnd}
use Rattle.ldap_messages.specs.Whole.{MessageValue, message_value}
use Rattle.ldap_messages.specs.declared.message.Message.{Message}
use Rattle.ldap_session.specs.Incoming.{Arrived, Incoming, incoming_in, rest_of}
use Rattle.sync_io.specs.Faults.{CountHasRisen}
use Rattle.sync_io.specs.Sink.{AppendsPrefix}
use Rattle.ldap_client.specs.Links.{LinkState}
use Rattle.ldap_client.specs.Messages.{BeginsWith, HasNoMessage, IsWrongAt}
use Rattle.ldap_client.specs.Receiving.{kept_in}
use Rattle.ldap_client.specs.declared.client.Client.{Client}
use Rattle.ldap_client.specs.declared.fault.ClientFault.{ClientFault}
use Rattle.ldap_client.specs.declared.fault.ClientFault.TheVariants.{ReadFault, WriteFault, PeerMessage, EndOfInput, NoMemory}

-- its link, the bytes that it has read and of which it has given no message, and the fault that it
-- answers from now on
pub record ClientState : Type 0 where
  pub link : LinkState
  pub kept : List ℕ
  pub fault : Option ClientFault

abbrev pub client_by : {L : Type 0} → (L → LinkState) → Client L → ClientState
client_by state client = record {
  link = state client.link;
  kept = kept_in client.received;
  fault = client.fault;
}

-- one that has just begun
abbrev pub fresh : LinkState → ClientState
fresh link = record { link = link; kept = []; fault = None }

-- the fault that is answered from now on: out of memory is not
abbrev pub lasting : ClientFault → Option ClientFault
lasting ReadFault = Some ReadFault
lasting WriteFault = Some WriteFault
lasting (PeerMessage place) = Some (PeerMessage place)
lasting EndOfInput = Some EndOfInput
lasting NoMemory = None

abbrev pub fault_after : {A : Type 0} → Result A ClientFault → Option ClientFault
fault_after (Ok value) = None
fault_after (Err fault) = lasting fault

-- ---- a message that is written

-- all the octets were written, or a prefix of them where a write failed, or none where memory ran
-- out
abbrev pub Writes : List ℕ → LinkState → Result Unit ClientFault → LinkState → Type 0
Writes octets old (Ok done) new =
    Appends old.held new.held octets × (new.write_faults ≡ old.write_faults)
Writes octets old (Err WriteFault) new =
    AppendsPrefix old.held new.held octets × CountHasRisen old.write_faults new.write_faults
Writes octets old (Err NoMemory) new =
    (new.held ≡ old.held) × (new.write_faults ≡ old.write_faults)
Writes octets old (Err ReadFault) new = ⊥
Writes octets old (Err (PeerMessage place)) new = ⊥
Writes octets old (Err EndOfInput) new = ⊥

-- a client that answers no fault is asked to write these octets
pub record Asks
    (octets : List ℕ) (old : ClientState) (result : Result Unit ClientFault) (new : ClientState)
    : Type 0 where
  pub writes : Writes octets old.link result new.link
  pub left : new.link.left ≡ old.link.left
  pub read : new.link.read ≡ old.link.read
  pub read_faults : new.link.read_faults ≡ old.link.read_faults
  pub kept : new.kept ≡ old.kept
  pub fault : new.fault ≡ fault_after result

-- ---- the next message

-- the next message of these bytes, of which the first were kept and the others were read; or why
-- there is none: what stands first in them is refused, or no message of them is whole, and then the
-- input has ended or a read failed
abbrev pub IsNext : (bytes : List ℕ) → LinkState → Result Message ClientFault → ClientState → Type 0
IsNext bytes before (Ok message) new = BeginsWith bytes (message_value message) new.kept
IsNext bytes before (Err (PeerMessage place)) new = IsWrongAt bytes place × (new.kept ≡ bytes)
IsNext bytes before (Err EndOfInput) new =
    HasNoMessage bytes × IsAtEnd new.link.left × (new.kept ≡ bytes)
IsNext bytes before (Err ReadFault) new =
    HasNoMessage bytes × CountHasRisen before.read_faults new.link.read_faults
    × (new.kept ≡ bytes)
IsNext bytes before (Err NoMemory) new = new.kept ≡ bytes
IsNext bytes before (Err WriteFault) new = ⊥

-- these bytes were read from a link, to which nothing was written
pub record Reads (old : LinkState) (bytes : List ℕ) (new : LinkState) : Type 0 where
  pub taken : Consumes old.left new.left bytes
  pub read : Appends old.read new.read bytes
  pub later : old.read_faults ≤ new.read_faults
  pub held : new.held ≡ old.held
  pub write_faults : new.write_faults ≡ old.write_faults

-- A client that answers no fault is asked for the next message. It reads only where it keeps none
-- that is whole, and nothing that is refused. No read fails but the one for which it is ReadFault.
pub record GivesNext (old : ClientState) (result : Result Message ClientFault) (new : ClientState)
    : Type 0 where
  pub bytes : List ℕ
  pub reads : Reads old.link bytes new.link
  pub needed : HasNoMessage old.kept ⊎ (bytes ≡ [])
  pub faultless : result ≢ Err ReadFault → new.link.read_faults ≡ old.link.read_faults
  pub next : IsNext (old.kept ++ bytes) old.link result new
  pub fault : new.fault ≡ fault_after result

-- ---- all messages

-- Since its link was seen so, these bytes were read, and these messages were given, in order: they
-- are the first of all that came, and those that come later are the messages of what is kept.
pub record HasGiven (first : LinkState) (messages : List MessageValue) (now : ClientState)
    : Type 0 where
  pub bytes : List ℕ
  pub taken : Consumes first.left now.link.left bytes
  pub read : Appends first.read now.link.read bytes
  pub later : first.read_faults ≤ now.link.read_faults
  pub given : (after : List ℕ)
      → incoming_in (bytes ++ after) ≡ map Arrived messages ++ incoming_in (now.kept ++ after)
  pub rest : (after : List ℕ) → rest_of (bytes ++ after) ≡ rest_of (now.kept ++ after)

-- the messages of all the bytes that were read from a link since it was seen so, up to a rest that
-- is no whole message, or to what is refused
pub record HasRead (first now : LinkState) (incoming : List Incoming) : Type 0 where
  pub bytes : List ℕ
  pub taken : Consumes first.left now.left bytes
  pub read : Appends first.read now.read bytes
  pub messages : incoming_in bytes ≡ incoming
