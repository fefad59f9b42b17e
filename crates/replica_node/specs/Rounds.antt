-- A round: one connection that is tried, and what is done over its link.
use Rattle.std.specs.Prelude.{◌≡◌, ◌⊎◌, ℕ, ℤ, Bool, true, List, [], ◌∷◌, ◌++◌, map, Err}
use Rattle.std.specs.Io.KnownBytes.{Appends, IsAtEnd}
use Rattle.ldap_client.specs.Clients.{HasRead}
use Rattle.ldap_client.specs.Links.{LinkState}
use Rattle.ldap_messages.specs.Whole.{MessageValue, message_octets, message_value}
use Rattle.ldap_messages.specs.declared.message.Message.{Message}
use Rattle.ldap_session.specs.Incoming.{Incoming, Arrived, Wrong}
use Rattle.entry_tree.specs.Selection.{Search}
use Rattle.sync_consumer.specs.Committing.{IsCommit}
use Rattle.sync_consumer.specs.Taking as taking
use Rattle.sync_consumer.specs.declared.commit.Commit.{Commit}
use Rattle.sync_consumer.specs.declared.consumer.Taken.TheVariants.{Stored, Copied, Over, Fault}
use Rattle.sync_consumer.specs.declared.fault.PeerFault.{PeerFault}
use Rattle.sync_io.specs.Faults.{CountHasRisen}
use Rattle.sync_io.specs.Sink.{AppendsPrefix}
use Rattle.sync_messages.specs.declared.request.Mode.TheVariants.{RefreshAndPersist}
use Rattle.sync_model.specs.Copy as model
use Rattle.sync_provider.specs.Ports.{PortState}
use Rattle.sync_provider.specs.declared.writing.CommitFault.{CommitFault}
use Rattle.replica_node.specs.Steps.{Commits, ReplicaStep, TakesAll, messages_of}

-- what a replica follows: what it wants, and whether it takes all as new where its cookie does not
-- serve
pub record Wanted : Type 0 where
  pub spec : Search
  pub reload : Bool

abbrev pub wanted_by : taking.ConsumerState → Wanted
wanted_by consumer = record { spec = consumer.spec; reload = consumer.reload }

-- the message ID of the search of each round
abbrev pub search_id : ℕ
search_id = 1

-- what it asks for with the cookie that it holds
abbrev pub request_of : Wanted → model.Copy → MessageValue
request_of wanted copy =
    taking.request_of (record { spec = wanted.spec; reload = wanted.reload; copy = copy })
    search_id RefreshAndPersist

-- the copy with the search that it asks for
abbrev pub searching : model.Copy → model.Copy
searching copy = model.asked search_id true copy

-- what ends a round over a link, after the messages that were taken
pub data RoundEnd : Type 0 where
  -- the link was read to its end
  ReadToEnd : RoundEnd
  -- what came is outside the grammar, at this place
  Refused : (place : ℕ) → RoundEnd
  -- a call of the link failed
  LinkFailed : RoundEnd
  -- the provider ended the search with this code
  EndedWith : Message → (code : ℤ) → RoundEnd
  -- a message is refused
  Faulted : Message → PeerFault → RoundEnd
  -- a stage took effect and its commit is refused
  Uncommitted : Message → Commit → CommitFault → RoundEnd
  -- memory ran out before the request was written, or before the next message was taken
  OutOfMemory : RoundEnd

-- the message that ends the round, if one does
abbrev pub last_of : RoundEnd → List MessageValue
last_of ReadToEnd = []
last_of (Refused place) = []
last_of LinkFailed = []
last_of (EndedWith message code) = message_value message ∷ []
last_of (Faulted message found) = message_value message ∷ []
last_of (Uncommitted message commit fault) = message_value message ∷ []
last_of OutOfMemory = []

-- a stage took effect, with a cookie or without one, and is a commit to a directory of the entries
-- before
pub record TakesEffect
    (copy : model.Copy) (message : Message) (after : model.Copy) (commit : Commit) : Type 0 where
  pub takes :
      taking.Takes copy message after (Stored commit)
      ⊎ taking.Takes copy message after (Copied commit)
  pub committed : IsCommit copy.held after.held commit

-- what the end of a round does to the copy and at the port
abbrev pub EndsBy : RoundEnd → model.Copy → PortState → model.Copy → PortState → Type 0
EndsBy ReadToEnd copy port copy' port' = (copy' ≡ copy) × (port' ≡ port)
EndsBy (Refused place) copy port copy' port' = (copy' ≡ copy) × (port' ≡ port)
EndsBy LinkFailed copy port copy' port' = (copy' ≡ copy) × (port' ≡ port)
EndsBy (EndedWith message code) copy port copy' port' =
    taking.Takes copy message copy' (Over code) × (port' ≡ port)
EndsBy (Faulted message found) copy port copy' port' =
    taking.Takes copy message copy' (Fault found) × (port' ≡ port)
EndsBy (Uncommitted message commit fault) copy port copy' port' =
    TakesEffect copy message copy' commit × Commits port commit (Err fault) port'
EndsBy OutOfMemory copy port copy' port' = (copy' ≡ copy) × (port' ≡ port)

-- Over a link the search was asked for, messages were taken one after another, each stage that took
-- effect was committed, and then the round ended; what was staged then is dropped.
pub record FollowsOver
    (wanted : Wanted) (copy : model.Copy) (port : PortState) (steps : List ReplicaStep)
    (end : RoundEnd) (copy' : model.Copy) (port' : PortState) : Type 0 where
  pub between : model.Copy
  pub between_port : PortState
  pub after : model.Copy
  pub takes : TakesAll (searching copy) port steps between between_port
  pub ends : EndsBy end between between_port after port'
  pub cut : copy' ≡ taking.without_search after

-- ---- what the link reports

-- what was read: the messages that were taken, and then what the end says
abbrev pub ReadsUpTo : (first now : LinkState) → List ReplicaStep → RoundEnd → Type 0
ReadsUpTo first now steps ReadToEnd =
    HasRead first now (map Arrived (messages_of steps)) × IsAtEnd now.left
ReadsUpTo first now steps (Refused place) =
    HasRead first now (map Arrived (messages_of steps) ++ Wrong place ∷ [])
ReadsUpTo first now steps LinkFailed =
    (later : List Incoming) × HasRead first now (map Arrived (messages_of steps) ++ later)
ReadsUpTo first now steps (EndedWith message code) =
    (later : List Incoming)
    × HasRead first now
    (map Arrived (messages_of steps) ++ Arrived (message_value message) ∷ later)
ReadsUpTo first now steps (Faulted message found) =
    (later : List Incoming)
    × HasRead first now
    (map Arrived (messages_of steps) ++ Arrived (message_value message) ∷ later)
ReadsUpTo first now steps (Uncommitted message commit fault) =
    (later : List Incoming)
    × HasRead first now
    (map Arrived (messages_of steps) ++ Arrived (message_value message) ∷ later)
ReadsUpTo first now steps OutOfMemory =
    (later : List Incoming) × HasRead first now (map Arrived (messages_of steps) ++ later)

-- no message was taken, since a write of the request failed, or memory ran out before anything was
-- written
abbrev pub IsUnasked : Wanted → model.Copy → (first now : LinkState) → List ReplicaStep → RoundEnd
    → Type 0
IsUnasked wanted copy first now steps end =
    (steps ≡ [])
    × ((CountHasRisen first.write_faults now.write_faults × (end ≡ LinkFailed)
    × AppendsPrefix first.held now.held (message_octets (request_of wanted copy)))
    ⊎ ((end ≡ OutOfMemory) × (now.held ≡ first.held)))

-- the request was written, unless a write failed or memory ran out, and then what was read is the
-- messages that were taken; the round ends with a failed link only where the link counted that
pub record IsSeen
    (wanted : Wanted) (copy : model.Copy) (first now : LinkState) (steps : List ReplicaStep)
    (end : RoundEnd) : Type 0 where
  pub written :
      Appends first.held now.held (message_octets (request_of wanted copy))
      ⊎ IsUnasked wanted copy first now steps end
  pub read : ReadsUpTo first now steps end
  pub failed : end ≡ LinkFailed
      → CountHasRisen first.read_faults now.read_faults
      ⊎ CountHasRisen first.write_faults now.write_faults
