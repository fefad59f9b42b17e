-- Replicas whose directories hold what their consumers hold.
use Rattle.std.specs.Prelude.{◌≡◌, ℕ, Some, List}
use Rattle.directory_writes.specs.Directory.{entries_of}
use Rattle.sync_consumer.specs.Committing.{stage_in, IsReadyOn}
use Rattle.sync_provider.specs.declared.provider.Kind.TheVariants.{Replica}
use Rattle.cascade_nodes.specs.Commits.{CanCommit}
use Rattle.cascade_nodes.specs.declared.node.ProviderNode.{ProviderNode}
use Rattle.cascade_nodes.specs.declared.node.ConsumerNode.{ConsumerNode}
use Rattle.cascade_report.specs.ReportLines.{StoredStage}
use Rattle.cascade_world.specs.World.{WorldState, provider_node_named, consumer_node_named}

-- the directory is that of a replica, and holds what its consumer holds
pub record IsInStep (consumer_node : ConsumerNode) (provider_node : ProviderNode) : Type 0 where
  pub kind : provider_node.provider.kind ≡ Replica
  pub entries : entries_of provider_node.provider.directory ≡ consumer_node.consumer.copy.held

-- a consumer holds what it may, and what is staged is ready to take effect; a directory of its
-- name is in step with it
pub record IsSteady
    (state : WorldState) (name : List ℕ) (consumer_node : ConsumerNode) : Type 0 where
  pub kept :
      IsReadyOn consumer_node.consumer.copy.held (stage_in consumer_node.consumer.copy.session)
  pub own :
      (provider_node : ProviderNode) → provider_node_named name state ≡ Some provider_node
      → IsInStep consumer_node provider_node

-- so it is with each consumer
abbrev pub AreInStep : WorldState → Type 0
AreInStep state =
    (name : List ℕ) (consumer_node : ConsumerNode)
    → consumer_node_named name state ≡ Some consumer_node → IsSteady state name consumer_node

-- the directory of the consumer's name, where there is one, can commit these stages, up to the
-- limits of its writes
abbrev pub OwnCanCommit : WorldState → List StoredStage → ConsumerNode → Type 0
OwnCanCommit state stages consumer_node =
    (own : ProviderNode) → provider_node_named consumer_node.name state ≡ Some own
    → CanCommit own stages
