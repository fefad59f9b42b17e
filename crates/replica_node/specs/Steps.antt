-- The messages that a replica takes, and their commits (RFC 4533, section 3).
use Rattle.std.specs.Prelude.{◌≡◌, ℕ, ◌+◌, List, [], ◌∷◌, map, Result, Ok}
use Rattle.ldap_messages.specs.Whole.{MessageValue, message_value}
use Rattle.ldap_messages.specs.declared.message.Message.{Message}
use Rattle.sync_consumer.specs.Committing.{CanBeCommitted}
use Rattle.sync_consumer.specs.Taking as taking
use Rattle.sync_consumer.specs.declared.commit.Commit.{Commit}
use Rattle.sync_consumer.specs.declared.consumer.Taken.{Taken}
use Rattle.sync_consumer.specs.declared.consumer.Taken.TheVariants.{Staged, Stored, Copied, Over, Fault, NoMemory}
use Rattle.sync_model.specs.Copy.{Copy}
use Rattle.sync_provider.specs.Ports.{CommitReplies, IsReplied, PortState}
use Rattle.sync_provider.specs.declared.writing.CommitFault.{CommitFault}

-- what was replied at a port to the commit of a stage
pub record Commits
    (old : PortState) (commit : Commit) (result : Result ℕ CommitFault) (new : PortState)
    : Type 0 where
  pub now : ℕ
  pub replied : IsReplied old (λ p. CommitReplies p commit.puts commit.drops now result new)

-- what came of a message leaves the search running, and a stage that took effect is committed
abbrev pub GoesOn : PortState → Taken → PortState → Type 0
GoesOn old Staged new = new ≡ old
GoesOn old (Stored commit) new = (number : ℕ) × Commits old commit (Ok number) new
GoesOn old (Copied commit) new = (number : ℕ) × Commits old commit (Ok number) new
GoesOn old (Over code) new = ⊥
GoesOn old (Fault found) new = ⊥
GoesOn old NoMemory new = ⊥

-- a message that was taken, what came of it, and the copy and the port after it
pub record ReplicaStep : Type 0 where
  pub message : Message
  pub taken : Taken
  pub copy : Copy
  pub port : PortState

-- one message was taken; a stage that took effect is a commit to a directory of the entries before,
-- and was committed
pub record TakesOne (copy : Copy) (port : PortState) (step : ReplicaStep) : Type 0 where
  pub takes : taking.Takes copy step.message step.copy step.taken
  pub committed : CanBeCommitted copy step.copy step.taken
  pub goes : GoesOn port step.taken step.port

-- messages that were taken one after another
abbrev pub TakesAll : Copy → PortState → List ReplicaStep → Copy → PortState → Type 0
TakesAll copy port [] copy' port' = (copy' ≡ copy) × (port' ≡ port)
TakesAll copy port (step ∷ steps) copy' port' =
    TakesOne copy port step × TakesAll step.copy step.port steps copy' port'

abbrev pub messages_of : List ReplicaStep → List MessageValue
messages_of steps = map (λ step. message_value step.message) steps

-- how many stages were committed
abbrev pub commits_in : Taken → ℕ
commits_in (Stored commit) = 1
commits_in (Copied commit) = 1
commits_in Staged = 0
commits_in (Over code) = 0
commits_in (Fault found) = 0
commits_in NoMemory = 0

abbrev pub commit_count : List ReplicaStep → ℕ
commit_count [] = 0
commit_count (step ∷ steps) = commits_in step.taken + commit_count steps
