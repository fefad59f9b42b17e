-- A replica that follows an upstream, round after round.
use Rattle.std.specs.Prelude.{◌≡◌, ◌⊎◌, ◌<◌, ◌≤◌, ℕ, List, [], ◌∷◌, ◌++◌, length, Option, All}
use Rattle.ldap_client.specs.Links.{LinkState}
use Rattle.ldap_messages.specs.declared.message.Message.{Message}
use Rattle.sync_consumer.specs.Taking as taking
use Rattle.sync_consumer.specs.declared.commit.Commit.{Commit}
use Rattle.sync_io.specs.Dial.{Dialled}
use Rattle.sync_model.specs.Copy as model
use Rattle.sync_provider.specs.Ports.{PortState}
use Rattle.sync_provider.specs.declared.writing.CommitFault.TheVariants.{LimitReached}
use Rattle.replica_node.specs.Following.{outcome_of}
use Rattle.replica_node.specs.Prefixes.{CommitsPrefixes}
use Rattle.replica_node.specs.ReplicaRounds.{AreOver, DoesAll, IsDialled, IsReported, LinkRound, OverLink, ReplicaRound, all_commits}
use Rattle.replica_node.specs.Rounds.{Uncommitted, Wanted}
use Rattle.replica_node.specs.declared.end.NodeEnd.{NodeEnd}
use Rattle.replica_node.specs.declared.end.NodeEnd.TheVariants as node
use Rattle.replica_node.specs.declared.end.RoundOutcome.TheVariants.{NoMemory}

-- the last round, and no other one, ended with a commit that passes this limit
pub record IsLimited {L : Type 0} (limit : ℕ) (rounds : List (ReplicaRound L)) : Type 0 where
  pub before : List (ReplicaRound L)
  pub over : AreOver before
  pub last : LinkRound L
  pub rounds_are : rounds ≡ before ++ OverLink last ∷ []
  pub message : Message
  pub commit : Commit
  pub end_is : last.end ≡ Uncommitted message commit (LimitReached limit)

-- memory ran out in the last round, and in no other one
pub record IsOutOfMemory {L : Type 0} (rounds : List (ReplicaRound L)) : Type 0 where
  pub before : List (ReplicaRound L)
  pub over : AreOver before
  pub last : LinkRound L
  pub rounds_are : rounds ≡ before ++ OverLink last ∷ []
  pub out : outcome_of last.end ≡ NoMemory

-- how following ended: as many connections were tried as were to be, and this many commits were
-- made; or the last commit passes a limit; or memory ran out, in the last round or before another
-- one; and no more connections were tried
abbrev pub EndsAs : {L : Type 0} → (rounds : ℕ) → List (ReplicaRound L) → NodeEnd → Type 0
EndsAs rounds done (node.Rounds stored) =
    AreOver done × (length done ≡ rounds) × (0 < rounds) × (stored ≡ all_commits done)
EndsAs rounds done (node.LimitReached limit) =
    IsLimited limit done × (0 < rounds → length done ≤ rounds)
EndsAs rounds done node.NoMemory =
    (AreOver done ⊎ IsOutOfMemory done) × (0 < rounds → length done ≤ rounds)

-- A replica followed its upstream, round after round, from an empty copy on: a dialler was asked at
-- its address alone, and each link that came was hung up.
pub record Follows {L : Type 0}
    (seen : L → LinkState) (address : List ℕ) (wanted : Wanted) (rounds : ℕ)
    (port : PortState) (before : Option (Dialled L)) (end : NodeEnd)
    (port' : PortState) (after : Option (Dialled L)) : Type 0 where
  pub done : List (ReplicaRound L)
  pub copy : model.Copy
  pub does : DoesAll wanted taking.nothing port done copy port'
  pub dialled : IsDialled address done before after
  pub reported : All (IsReported seen wanted before) done
  pub ends : EndsAs rounds done end
  pub prefixes : CommitsPrefixes port port' done
