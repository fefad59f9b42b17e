-- Where the nodes of a script stand, and what a write to a provider answers.
use Rattle.std.specs.Prelude.{◌≡◌, ◌⊎◌, ℕ, Some, position, List, [], ◌∷◌, length, Result, Ok, Err, IfOk, set, slice_get}
use Rattle.schema_rules.specs.declared.raw.Change.{Change}
use Rattle.sync_provider.specs.Machine.{ProviderState}
use Rattle.cascade_script.specs.declared.fault.Cause.{Cause}
use Rattle.cascade_script.specs.declared.fault.Cause.TheVariants.{NoMemory}
use Rattle.cascade_nodes.specs.declared.node.ProviderNode.{ProviderNode}
use Rattle.cascade_nodes.specs.declared.node.ConsumerNode.{ConsumerNode}
use Rattle.cascade_exchange.specs.declared.exchange.Performed.{Performed}
use Rattle.cascade_world.specs.Directory.{change_code, wrote_change}
use Rattle.cascade_exchange.specs.Exchange.{Agreement, ExchangeOutcome, agreement_of}
use Rattle.cascade_exchange.specs.Parts.{Performs, BringsBack}
use Rattle.cascade_report.specs.ReportLines.{lines_text}
use Rattle.cascade_report.specs.ReportLines.ReportLine.{Wrote}
use Rattle.cascade_world.specs.World.{WorldState, is_provider_node, is_consumer_node, lineage_of}

-- the consumer of that name stands at the second place, and its provider at the first
pub record ArePlaces (state : WorldState) (name : List ℕ) (places : ℕ × ℕ) : Type 0 where
  pub consumer_node : ConsumerNode
  pub at_consumer_node : position (is_consumer_node name) state.consumer_nodes ≡ Some places.1
  pub follows : slice_get state.consumer_nodes places.1 ≡ Some consumer_node
  pub at_provider_node :
      position (is_provider_node consumer_node.source) state.provider_nodes ≡ Some places.0

-- the state where the provider at the first place and the consumer at the second are now these
abbrev pub placed : WorldState → ℕ → ℕ → ProviderNode → ProviderState → ConsumerNode → WorldState
placed state j i provider_node provider consumer_node = record state {
  provider_nodes = set state.provider_nodes j (record provider_node { provider = provider });
  consumer_nodes = set state.consumer_nodes i consumer_node;
}

-- what goes on between the provider at the first place and the consumer at the second, and what
-- brings the two back where a stage took effect
pub record PerformsAt
    (old : WorldState) (j i : ℕ) (part : Agreement → ExchangeOutcome) (new : WorldState)
    (result : Result Performed Cause) : Type 0 where
  pub provider_node : ProviderNode
  pub consumer_node : ConsumerNode
  pub at_provider_node : slice_get old.provider_nodes j ≡ Some provider_node
  pub at_consumer_node : slice_get old.consumer_nodes i ≡ Some consumer_node
  pub provider : ProviderState
  pub consumer : ConsumerNode
  pub does :
      Performs
      (part (agreement_of provider_node.provider consumer_node (lineage_of old provider_node)))
      (agreement_of provider consumer (lineage_of old provider_node)) result
  pub before :
      IfOk result (λ done.
      (done.stages.items ≡ [])
      ⊎ BringsBack provider_node.provider consumer_node provider consumer done.before)
  pub after : new ≡ placed old j i provider_node provider consumer

-- a write to a provider and the line of it; out of memory leaves the provider
abbrev pub Writes :
    ProviderState → List ℕ → ℕ → Change → ProviderState → Result (List ℕ) Cause → Type 0
Writes before name now change after (Ok text) =
    (after ≡ wrote_change before now change)
    × (text ≡ lines_text (Wrote name (change_code before now change)
    (length (wrote_change before now change).directory.writes) ∷ []))
Writes before name now change after (Err cause) = (cause ≡ NoMemory) × (after ≡ before)
