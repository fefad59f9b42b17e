-- What a replica of one directory commits: the content after a prefix of its writes (RFC 4533,
-- sections 3.3 and 3.4).
use Rattle.std.specs.Prelude.{◌≡◌, ◌⊎◌, ◌≤◌, ℕ, Bool, true, false, List, [], ◌∷◌, ◌++◌, map, Option, Some, Ok, All}
use Rattle.directory_writes.specs.Directory.{entries_of}
use Rattle.ldap_messages.specs.declared.message.Message.{Message}
use Rattle.sync_consumer.specs.declared.consumer.Taken.{Taken}
use Rattle.sync_consumer.specs.declared.consumer.Taken.TheVariants.{Staged, Stored, Copied, Over, Fault, NoMemory}
use Rattle.sync_model.specs.Law.{Ascending, IsCut}
use Rattle.sync_model.specs.Message.{SyncMessage}
use Rattle.sync_model.specs.Stream.{RefreshPiece, Start, SyncOperation, content_after, stream}
use Rattle.sync_model.specs.Stream.Start.{InitialContent, DeletePhase, PresentPhase}
use Rattle.sync_provider.specs.Ports.{PortState}
use Rattle.sync_provider.specs.declared.journal_note.JournalNote.{JournalNote}
use Rattle.sync_provider.specs.declared.journal_note.JournalNote.TheVariants.{Wrote, Opened, Closed}
use Rattle.sync_wire.specs.Decoding.{said}
use Rattle.replica_node.specs.ReplicaRounds.{LinkRound, OverLink, ReplicaRound, Unlinked}
use Rattle.replica_node.specs.Rounds.{search_id}
use Rattle.replica_node.specs.Steps.{ReplicaStep}

-- ---- the directory that is followed

-- its states by the number of writes before them are in ascending order of identity, its searches
-- go on after their refresh, and each of its cookies names one number
pub record IsDirectory (operation : SyncOperation) : Type 0 where
  pub ascending : Ascending operation
  pub persists : operation.persists ≡ true
  pub cookies : (one other : ℕ) → operation.cookies one ≡ operation.cookies other → one ≡ other

-- ---- the messages of a round

-- a message of the search says this, whatever part of the search it comes in
pub record Carries (message : Message) (sync : SyncMessage) : Type 0 where
  pub own : message.id ≡ search_id
  pub says : (persisting : Bool) → said persisting message ≡ Ok sync

abbrev pub CarriesAll : List Message → List SyncMessage → Type 0
CarriesAll [] [] = Unit {0}
CarriesAll [] (sync ∷ syncs) = ⊥
CarriesAll (message ∷ messages) [] = ⊥
CarriesAll (message ∷ messages) (sync ∷ syncs) = Carries message sync × CarriesAll messages syncs

-- a search begins without a cookie, or after the writes that the cookie names that was sent
abbrev pub BeginsAfter : SyncOperation → Option (List ℕ) → Start → (accepted : ℕ) → Type 0
BeginsAfter operation cookie InitialContent accepted = Unit {0}
BeginsAfter operation cookie (DeletePhase number) accepted =
    (number ≤ accepted) × (cookie ≡ Some (operation.cookies number))
BeginsAfter operation cookie (PresentPhase number) accepted =
    (number ≤ accepted) × (cookie ≡ Some (operation.cookies number))

abbrev pub taken_messages : {L : Type 0} → LinkRound L → List Message
taken_messages round = map (λ (step : ReplicaStep). step.message) round.steps

-- the messages that were taken in a round are a prefix of a stream of this directory, which begins
-- without a cookie or at the one that was sent
pub record IsOfStream {L : Type 0} (operation : SyncOperation) (round : LinkRound L) : Type 0 where
  pub start : Start
  pub accepted : ℕ
  pub pieces : List RefreshPiece
  pub count : ℕ
  pub cut : IsCut operation start accepted pieces
  pub begins : BeginsAfter operation round.copy.cookie start accepted
  pub said_in : List SyncMessage
  pub rest : List SyncMessage
  pub prefix : said_in ++ rest ≡ stream operation start accepted pieces count
  pub says : CarriesAll (taken_messages round) said_in

abbrev pub AreOfStreams : {L : Type 0} → SyncOperation → ReplicaRound L → Type 0
AreOfStreams operation Unlinked = Unit {0}
AreOfStreams operation (OverLink round) = IsOfStream operation round

-- ---- the port

abbrev pub is_wrote : JournalNote → Bool
is_wrote (Wrote write) = true
is_wrote (Opened opening) = false
is_wrote (Closed end) = false

-- an entry of a journal is no write of another port
abbrev pub IsOwn : (number : ℕ) → JournalNote × ℕ → Type 0
IsOwn number entry = is_wrote entry.0 ≡ true → entry.1 ≡ number

-- the port's directory had no writes when the replica began, and has no others now than those of
-- this port
pub record IsAlone (before after : PortState) : Type 0 where
  pub empty : before.directory.writes ≡ []
  pub own : All (IsOwn before.number) after.journal

-- ---- what is committed

-- the entries of the port's directory are the content after some of the writes
pub record HoldsPrefix (operation : SyncOperation) (port : PortState) : Type 0 where
  pub number : ℕ
  pub same : entries_of port.directory ≡ content_after operation number

-- a commit leaves such content
abbrev pub LeavesPrefix : SyncOperation → Taken → PortState → Type 0
LeavesPrefix operation (Stored commit) port = HoldsPrefix operation port
LeavesPrefix operation (Copied commit) port = HoldsPrefix operation port
LeavesPrefix operation Staged port = Unit {0}
LeavesPrefix operation (Over code) port = Unit {0}
LeavesPrefix operation (Fault found) port = Unit {0}
LeavesPrefix operation NoMemory port = Unit {0}

abbrev pub StepLeavesPrefix : SyncOperation → ReplicaStep → Type 0
StepLeavesPrefix operation step = LeavesPrefix operation step.taken step.port

-- each commit of a round does
abbrev pub LeavePrefixes : {L : Type 0} → SyncOperation → ReplicaRound L → Type 0
LeavePrefixes operation Unlinked = Unit {0}
LeavePrefixes operation (OverLink round) = All (StepLeavesPrefix operation) round.steps

-- where the messages of each round are of streams of one directory, each commit leaves the content
-- after some of the writes of that directory, and in the end the port's directory holds such a
-- content, or no entries
abbrev pub CommitsPrefixes : {L : Type 0} → (before after : PortState) → List (ReplicaRound L)
    → Type 0
CommitsPrefixes before after done =
    (operation : SyncOperation) → IsDirectory operation → IsAlone before after
    → All (λ round. AreOfStreams operation round) done
    → All (λ round. LeavePrefixes operation round) done
    × (HoldsPrefix operation after ⊎ (entries_of after.directory ≡ []))
