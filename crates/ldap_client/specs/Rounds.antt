-- One round of a client that is asked for a message: the message that stands first in what it
-- keeps, or one read more.
use Rattle.std.specs.Prelude.{◌≡◌, ◌≢◌, ℕ, List, [], ◌++◌, Option, Some, None, Result, Ok, Err, OnErr}
use Rattle.std.specs.Io.KnownBytes.{IsAtEnd}
use Rattle.ldap_messages.specs.Frame.{partial, read_of}
use Rattle.ldap_messages.specs.Whole.{message_value}
use Rattle.ldap_messages.specs.declared.message.Message.{Message}
use Rattle.sync_io.specs.Faults.{CountHasRisen}
use Rattle.sync_io.specs.declared.source.Piece.{Piece}
use Rattle.sync_io.specs.declared.source.Piece.TheVariants.{Got, Quiet, End, Failed}
use Rattle.ldap_client.specs.Clients.{ClientState, Reads, fault_after}
use Rattle.ldap_client.specs.Links.{LinkState}
use Rattle.ldap_client.specs.Messages.{BeginsWith, IsWrongAt}
use Rattle.ldap_client.specs.declared.fault.ClientFault.{ClientFault}
use Rattle.ldap_client.specs.declared.fault.ClientFault.TheVariants.{ReadFault, WriteFault, PeerMessage, EndOfInput, NoMemory}

-- bytes come with a piece alone
abbrev pub ComeWith : {E : Type 0} → Result Piece E → List ℕ → Type 0
ComeWith (Ok (Got count)) bytes = Unit {0}
ComeWith (Ok Quiet) bytes = bytes ≡ []
ComeWith (Ok End) bytes = bytes ≡ []
ComeWith (Ok Failed) bytes = bytes ≡ []
ComeWith (Err fault) bytes = bytes ≡ []

-- a read that failed is counted, and nothing else is
abbrev pub CountsFault : {E : Type 0} → Result Piece E → (before after : ℕ) → Type 0
CountsFault (Ok (Got count)) before after = after ≡ before
CountsFault (Ok Quiet) before after = after ≡ before
CountsFault (Ok End) before after = after ≡ before
CountsFault (Ok Failed) before after = CountHasRisen before after
CountsFault (Err fault) before after = after ≡ before

-- why a read gave nothing more
abbrev pub IsReadFault : Result Unit ClientFault → (before after : LinkState) → Type 0
IsReadFault (Ok done) before after = Unit {0}
IsReadFault (Err EndOfInput) before after = IsAtEnd after.left
IsReadFault (Err ReadFault) before after = CountHasRisen before.read_faults after.read_faults
IsReadFault (Err NoMemory) before after = Unit {0}
IsReadFault (Err WriteFault) before after = ⊥
IsReadFault (Err (PeerMessage place)) before after = ⊥

-- one read
pub record ReadsMore (old : ClientState) (result : Result Unit ClientFault) (new : ClientState)
    : Type 0 where
  pub bytes : List ℕ
  pub reads : Reads old.link bytes new.link
  pub kept : new.kept ≡ old.kept ++ bytes
  pub none : OnErr result (bytes ≡ [])
  pub why : IsReadFault result old.link new.link
  pub faultless : fault_after result ≢ Some ReadFault → new.link.read_faults ≡ old.link.read_faults
  pub fault : old.fault ≡ None → new.fault ≡ fault_after result

-- what came of the bytes that were kept
abbrev pub IsRound : (kept bytes : List ℕ) → LinkState → Result (Option Message) ClientFault
    → ClientState → Type 0
IsRound kept bytes before (Ok None) new = (read_of kept ≡ partial) × (new.kept ≡ kept ++ bytes)
IsRound kept bytes before (Ok (Some message)) new =
    (bytes ≡ []) × BeginsWith kept (message_value message) new.kept
IsRound kept bytes before (Err (PeerMessage place)) new =
    (bytes ≡ []) × IsWrongAt kept place × (new.kept ≡ kept)
IsRound kept bytes before (Err EndOfInput) new =
    (bytes ≡ []) × (read_of kept ≡ partial) × IsAtEnd new.link.left × (new.kept ≡ kept)
IsRound kept bytes before (Err ReadFault) new =
    (bytes ≡ []) × (read_of kept ≡ partial)
    × CountHasRisen before.read_faults new.link.read_faults × (new.kept ≡ kept)
IsRound kept bytes before (Err NoMemory) new = (bytes ≡ []) × (new.kept ≡ kept)
IsRound kept bytes before (Err WriteFault) new = ⊥

-- one round
pub record GoesRound
    (old : ClientState) (result : Result (Option Message) ClientFault) (new : ClientState)
    : Type 0 where
  pub bytes : List ℕ
  pub reads : Reads old.link bytes new.link
  pub round : IsRound old.kept bytes old.link result new
  pub faultless : fault_after result ≢ Some ReadFault → new.link.read_faults ≡ old.link.read_faults
  pub fault : old.fault ≡ None → new.fault ≡ fault_after result
