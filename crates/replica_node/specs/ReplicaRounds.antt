-- Rounds of a replica, each over one link, one after another.
use Rattle.std.specs.Prelude.{◌≡◌, ◌⊎◌, ◌+◌, ℕ, Bool, true, false, List, [], ◌∷◌, ◌++◌, length, map, Option, Some, None, IfSome, All, option_map}
use Rattle.std.specs.List.{flat_map}
use Rattle.ldap_client.specs.Links.{LinkState}
use Rattle.sync_io.specs.Dial.{Dialled, hangs_up}
use Rattle.sync_io.specs.Links.{HasNoFaults, IsUnused}
use Rattle.sync_model.specs.Copy as model
use Rattle.sync_provider.specs.Ports.{PortState}
use Rattle.replica_node.specs.Following.{ReplicaState, outcome_of}
use Rattle.replica_node.specs.Rounds.{FollowsOver, IsSeen, RoundEnd, Wanted}
use Rattle.replica_node.specs.Steps.{ReplicaStep, commit_count}
use Rattle.replica_node.specs.declared.end.RoundOutcome.{RoundOutcome}
use Rattle.replica_node.specs.declared.end.RoundOutcome.TheVariants.{NoMemory, Over}

-- a round over a link: how the link was seen as it came, the link as it was hung up, the copy at
-- the beginning, the messages that were taken, and what ended the round
pub record LinkRound (L : Type 0) : Type 0 where
  pub first : LinkState
  pub link : L
  pub copy : model.Copy
  pub steps : List ReplicaStep
  pub end : RoundEnd

-- a connection that was tried: no link came, or one did
pub data ReplicaRound (L : Type 0) : Type 0 where
  Unlinked : ReplicaRound L
  OverLink : LinkRound L → ReplicaRound L

module _ {L : Type 0} where
  -- a link came
  abbrev pub came : ReplicaRound L → Bool
  came Unlinked = false
  came (OverLink round) = true

  -- what comes after it
  abbrev pub round_outcome : ReplicaRound L → RoundOutcome
  round_outcome Unlinked = Over
  round_outcome (OverLink round) = outcome_of round.end

  -- after each of these rounds another one may come
  abbrev pub AreOver : List (ReplicaRound L) → Type 0
  AreOver rounds = All (λ (round : ReplicaRound L). round_outcome round ≡ Over) rounds

  abbrev pub link_of : ReplicaRound L → List L
  link_of Unlinked = []
  link_of (OverLink round) = round.link ∷ []

  -- how many commits were made
  abbrev pub commits_of : ReplicaRound L → ℕ
  commits_of Unlinked = 0
  commits_of (OverLink round) = commit_count round.steps

  abbrev pub all_commits : List (ReplicaRound L) → ℕ
  all_commits [] = 0
  all_commits (round ∷ rounds) = commits_of round + all_commits rounds

  -- what a round does to the copy and at the port
  abbrev pub Does : Wanted → model.Copy → PortState → ReplicaRound L → model.Copy → PortState
      → Type 0
  Does wanted copy port Unlinked copy' port' = (copy' ≡ copy) × (port' ≡ port)
  Does wanted copy port (OverLink round) copy' port' =
      (round.copy ≡ copy)
      × FollowsOver wanted round.copy port round.steps round.end copy' port'

  -- rounds, one after another
  abbrev pub DoesAll : Wanted → model.Copy → PortState → List (ReplicaRound L) → model.Copy
      → PortState → Type 0
  DoesAll wanted copy port [] copy' port' = (copy' ≡ copy) × (port' ≡ port)
  DoesAll wanted copy port (round ∷ rounds) copy' port' =
      (between : model.Copy) × (between_port : PortState)
      × Does wanted copy port round between between_port
      × DoesAll wanted between between_port rounds copy' port'

  -- the link of a round was new, as far as its dialler reports that, and it shows what was done
  -- over it
  abbrev pub IsReported : (L → LinkState) → Wanted → Option (Dialled L) → ReplicaRound L → Type 0
  IsReported seen wanted dialled Unlinked = Unit {0}
  IsReported seen wanted dialled (OverLink round) =
      HasNoFaults round.first.read_faults round.first.write_faults
      × IfSome dialled (λ _. IsUnused round.first.read round.first.held)
      × IsSeen wanted round.copy round.first (seen round.link) round.steps round.end

  -- a dialler was asked for a link at this address in each round, and each link that came was hung
  -- up
  abbrev pub IsDialled : List ℕ → List (ReplicaRound L) → Option (Dialled L) → Option (Dialled L)
      → Type 0
  IsDialled address rounds None after = after ≡ None
  IsDialled address rounds (Some before) None = ⊥
  IsDialled address rounds (Some before) (Some after) =
      (after.asked ≡ before.asked ++ map (λ round. (address, came round)) rounds)
      × (after.came ≡ before.came + length (flat_map link_of rounds))
      × (after.hung_up ≡ before.hung_up ++ flat_map link_of rounds)

-- ---- one round

-- over a link the search was followed to the end of the round, and the link was hung up
pub record FollowsLink {L : Type 0}
    (seen : L → LinkState) (wanted : Wanted)
    (link : L) (before : Option (Dialled L)) (old : ReplicaState) (outcome : RoundOutcome)
    (after : Option (Dialled L)) (new : ReplicaState) : Type 0 where
  pub back : L
  pub steps : List ReplicaStep
  pub end : RoundEnd
  pub follows : FollowsOver wanted old.copy old.port steps end new.copy new.port
  pub seen_is : IsSeen wanted old.copy (seen link) (seen back) steps end
  pub dialled : after ≡ option_map (hangs_up back) before
  pub outcome_is : outcome ≡ outcome_of end
  pub counted : new.stored ≡ old.stored + commit_count steps

-- one connection was tried
pub record DoesRound {L : Type 0}
    (seen : L → LinkState) (wanted : Wanted) (address : List ℕ)
    (before : Option (Dialled L)) (old : ReplicaState) (outcome : RoundOutcome)
    (after : Option (Dialled L)) (new : ReplicaState) : Type 0 where
  pub round : ReplicaRound L
  pub does : Does wanted old.copy old.port round new.copy new.port
  pub dialled : IsDialled address (round ∷ []) before after
  pub reported : IsReported seen wanted before round
  pub outcome_is : outcome ≡ round_outcome round
  pub counted : new.stored ≡ old.stored + commits_of round

-- one connection was tried; or memory ran out before it was
abbrev pub TriesRound : {L : Type 0} → (L → LinkState) → Wanted → List ℕ → Option (Dialled L)
    → ReplicaState → RoundOutcome → Option (Dialled L) → ReplicaState → Type 0
TriesRound seen wanted address before old NoMemory after new =
    DoesRound seen wanted address before old NoMemory after new
    ⊎ ((after ≡ before) × (new ≡ old))
TriesRound seen wanted address before old outcome after new =
    DoesRound seen wanted address before old outcome after new
