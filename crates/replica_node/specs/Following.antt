-- What is done over one link step by step, whatever came before.
use Rattle.std.specs.Prelude.{◌≡◌, ◌⊎◌, ℕ, ◌+◌, ◌≤◌, List, [], ◌∷◌, ◌++◌, length, Option, Some, None, Ok, Err}
use Rattle.std.specs.Io.KnownBytes.{Appends}
use Rattle.ldap_client.specs.Clients.{Asks, ClientState, HasGiven}
use Rattle.ldap_client.specs.Links.{LinkState}
use Rattle.ldap_client.specs.declared.fault.ClientFault.{ClientFault}
use Rattle.ldap_client.specs.declared.fault.ClientFault.TheVariants as client_fault
use Rattle.ldap_client.specs.declared.fault.ClientFault.TheVariants.{WriteFault}
use Rattle.ldap_messages.specs.Whole.{message_octets, message_value}
use Rattle.ldap_messages.specs.declared.message.Message.{Message}
use Rattle.sync_consumer.specs.Taking as taking
use Rattle.sync_consumer.specs.declared.commit.Commit.{Commit}
use Rattle.sync_consumer.specs.declared.consumer.Taken.{Taken}
use Rattle.sync_model.specs.Copy as model
use Rattle.sync_provider.specs.Ports.{PortState}
use Rattle.sync_provider.specs.declared.writing.CommitFault.{CommitFault}
use Rattle.sync_provider.specs.declared.writing.CommitFault.TheVariants as commit
use Rattle.replica_node.specs.Rounds.{EndedWith, EndsBy, Faulted, FollowsOver, IsSeen, LinkFailed, OutOfMemory, ReadToEnd, Refused, RoundEnd, Uncommitted, Wanted, last_of, request_of, searching}
use Rattle.replica_node.specs.Steps.{Commits, ReplicaStep, TakesAll, TakesOne, commit_count, commits_in, messages_of}
use Rattle.replica_node.specs.declared.end.RoundOutcome.{RoundOutcome}
use Rattle.replica_node.specs.declared.end.RoundOutcome.TheVariants.{Over, LimitReached, NoMemory}

-- ---- what comes after the end of a round

-- after a commit that is refused
abbrev pub outcome_of_fault : CommitFault → RoundOutcome
outcome_of_fault (commit.DuplicateName one other) = Over
outcome_of_fault (commit.LimitReached limit) = LimitReached limit
outcome_of_fault commit.NoMemory = NoMemory
outcome_of_fault commit.NotAReplica = Over

-- after a round that ended so
abbrev pub outcome_of : RoundEnd → RoundOutcome
outcome_of ReadToEnd = Over
outcome_of (Refused place) = Over
outcome_of LinkFailed = Over
outcome_of (EndedWith message code) = Over
outcome_of (Faulted message found) = Over
outcome_of (Uncommitted message commit fault) = outcome_of_fault fault
outcome_of OutOfMemory = NoMemory

-- after a fault of the client
abbrev pub outcome_by : ClientFault → RoundOutcome
outcome_by client_fault.ReadFault = Over
outcome_by client_fault.WriteFault = Over
outcome_by (client_fault.PeerMessage place) = Over
outcome_by client_fault.EndOfInput = Over
outcome_by client_fault.NoMemory = NoMemory

-- ---- a replica

-- its copy, its port, and how many commits it has made
pub record ReplicaState : Type 0 where
  pub copy : model.Copy
  pub port : PortState
  pub stored : ℕ

abbrev pub replica_at : model.Copy → PortState → ℕ → ReplicaState
replica_at copy port stored = record { copy = copy; port = port; stored = stored }

-- the commits that are counted are among the writes of the port's directory
abbrev pub IsCounted : PortState → (stored : ℕ) → Type 0
IsCounted port stored = stored ≤ length port.directory.writes

-- a stage was committed, and one commit more is counted, or the commit is refused
abbrev pub CommitsOrEnds : PortState → (stored : ℕ) → Commit → Option RoundOutcome → PortState
    → (stored' : ℕ) → Type 0
CommitsOrEnds old stored commit None new stored' =
    (number : ℕ) × Commits old commit (Ok number) new × (stored' ≡ stored + 1)
CommitsOrEnds old stored commit (Some outcome) new stored' =
    (fault : CommitFault) × Commits old commit (Err fault) new
    × (outcome ≡ outcome_of_fault fault) × (stored' ≡ stored)

-- a message was taken, and the round goes on
pub record TakesOn (old : ReplicaState) (message : Message) (new : ReplicaState) : Type 0 where
  pub taken : Taken
  pub takes :
      TakesOne old.copy old.port
      (record { message = message; taken = taken; copy = new.copy; port = new.port })
  pub counted : new.stored ≡ old.stored + commits_in taken

-- a message ended the round
pub record EndsWith
    (old : ReplicaState) (message : Message) (outcome : RoundOutcome) (new : ReplicaState)
    : Type 0 where
  pub end : RoundEnd
  pub last : last_of end ≡ message_value message ∷ []
  pub ends : EndsBy end old.copy old.port new.copy new.port
  pub outcome_is : outcome ≡ outcome_of end
  pub counted : new.stored ≡ old.stored

-- one or the other; or memory ran out before it was taken
abbrev pub TakesOrEnds : ReplicaState → Message → Option RoundOutcome → ReplicaState → Type 0
TakesOrEnds old message None new = TakesOn old message new
TakesOrEnds old message (Some outcome) new =
    EndsWith old message outcome new ⊎ ((outcome ≡ NoMemory) × (new ≡ old))

-- ---- one link

-- where a round over a link begins: what is wanted, the replica, and how the link was first seen
pub record RoundStart : Type 0 where
  pub wanted : Wanted
  pub replica : ReplicaState
  pub link : LinkState

-- where it has come to: the client of the link, and the replica
pub record RoundState : Type 0 where
  pub client : ClientState
  pub replica : ReplicaState

abbrev pub round_at : ClientState → ReplicaState → RoundState
round_at client replica = record { client = client; replica = replica }

-- its search is ended, and what was staged is dropped
abbrev pub cut_off : RoundState → RoundState
cut_off now =
    record now {
      replica = record now.replica { copy = taking.without_search now.replica.copy };
    }

-- over the link the search was asked for, and these messages were taken
pub record IsFollowing (start : RoundStart) (steps : List ReplicaStep) (now : RoundState)
    : Type 0 where
  pub given : HasGiven start.link (messages_of steps) now.client
  pub live : now.client.fault ≡ None
  pub written :
      Appends start.link.held now.client.link.held
      (message_octets (request_of start.wanted start.replica.copy))
  pub writes : now.client.link.write_faults ≡ start.link.write_faults
  pub takes :
      TakesAll (searching start.replica.copy) start.replica.port steps now.replica.copy
      now.replica.port
  pub counted : now.replica.stored ≡ start.replica.stored + commit_count steps

-- the round over the link ended so
pub record EndsOver (start : RoundStart) (now : RoundState) (outcome : RoundOutcome) : Type 0 where
  pub steps : List ReplicaStep
  pub end : RoundEnd
  pub follows :
      FollowsOver start.wanted start.replica.copy start.replica.port steps end now.replica.copy
      now.replica.port
  pub seen : IsSeen start.wanted start.replica.copy start.link now.client.link steps end
  pub outcome_is : outcome ≡ outcome_of end
  pub counted : now.replica.stored ≡ start.replica.stored + commit_count steps

-- one message more was taken, or the round ended
abbrev pub TakesNext : RoundState → Option RoundOutcome → RoundState → Type 0
TakesNext old None new =
    (start : RoundStart) (steps : List ReplicaStep) → IsFollowing start steps old
    → (step : ReplicaStep) × IsFollowing start (steps ++ step ∷ []) new
TakesNext old (Some outcome) new =
    (start : RoundStart) (steps : List ReplicaStep) → IsFollowing start steps old
    → EndsOver start (cut_off new) outcome

-- all messages of a round were taken, to its end
abbrev pub TakesToEnd : RoundState → RoundOutcome → RoundState → Type 0
TakesToEnd old outcome new =
    (start : RoundStart) (steps : List ReplicaStep) → IsFollowing start steps old
    → EndsOver start (cut_off new) outcome

-- the search was asked for; or writing that failed; or memory ran out, and nothing was written
abbrev pub AsksOrEnds : Wanted → ClientState → model.Copy → Option RoundOutcome → ClientState
    → model.Copy → Type 0
AsksOrEnds wanted client copy None client' copy' =
    Asks (message_octets (request_of wanted copy)) client (Ok tt) client'
    × (copy' ≡ searching copy)
AsksOrEnds wanted client copy (Some NoMemory) client' copy' =
    Asks (message_octets (request_of wanted copy)) client (Err client_fault.NoMemory) client'
    × (taking.without_search copy' ≡ taking.without_search copy)
AsksOrEnds wanted client copy (Some Over) client' copy' =
    Asks (message_octets (request_of wanted copy)) client (Err WriteFault) client'
    × (copy' ≡ searching copy)
AsksOrEnds wanted client copy (Some (LimitReached limit)) client' copy' = ⊥
