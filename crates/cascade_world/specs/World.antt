-- The nodes of a script, and what an order does to them.
use Rattle.std.specs.Prelude.{◌≡◌, ℕ, ◌+◌, Bool, not, ◌||◌, nat_le, find, Option, Some, None, Result, Ok, Err, List, [], ◌∷◌, ◌++◌, length, if◌then◌else◌}
use Rattle.std.specs.List.{list_any}
use Rattle.dn_names.specs.Names.{TypeAndValue}
use Rattle.entry_tree.specs.Selection.{Search}
use Rattle.entry_tree.specs.declared.entry.Entry.{Entry}
use Rattle.schema_rules.specs.declared.raw.Change.{Change}
use Rattle.sync_messages.specs.declared.request.Mode.TheVariants.{RefreshOnly, RefreshAndPersist}
use Rattle.directory_writes.specs.Directory.{entries_of}
use Rattle.sync_provider.specs.Machine.{ProviderState, fresh, log_limited, queue_limited}
use Rattle.sync_provider.specs.declared.provider.Kind.{Kind}
use Rattle.sync_provider.specs.declared.provider.Kind.TheVariants.{Root, Replica}
use Rattle.cascade_script.specs.declared.fault.ScriptFault.{ScriptFault}
use Rattle.cascade_script.specs.declared.fault.Cause.{Cause}
use Rattle.cascade_script.specs.declared.fault.Cause.TheVariants.{NameTaken, UnknownNode, Circle, OutsideSuffix, LimitReached, NoMemory}
use Rattle.cascade_nodes.specs.declared.node.ProviderNode.{ProviderNode}
use Rattle.cascade_nodes.specs.declared.node.ConsumerNode.{ConsumerNode}
use Rattle.cascade_exchange.specs.Cookies.{most_nodes}
use Rattle.cascade_nodes.specs.Commits.{commits_all}
use Rattle.cascade_world.specs.Directory.{change_code, wrote_change}
use Rattle.cascade_exchange.specs.Exchange.{Agreement, ExchangeOutcome, sent, takes, cut, idle, opens, settles, loses_cookie, sets_cookie, respecs}
use Rattle.cascade_script.specs.Fault.{RefusedAt}
use Rattle.cascade_nodes.specs.Nodes.{is_fed_within, top_within}
pub use Rattle.cascade_nodes.specs.Nodes.{is_provider_node, is_consumer_node, is_offered, new_consumer_node}
use Rattle.cascade_script.specs.Orders.{Order}
use Rattle.cascade_script.specs.Orders.{Order as asks}
use Rattle.cascade_report.specs.Origins.{Lineage}
use Rattle.cascade_report.specs.ReportLines.{StoredStage, ReportLine, lines_text, stages_of}
use Rattle.cascade_report.specs.ReportLines.ReportLine.{Wrote, Clocked, Shown}

-- the time, in microseconds from the first moment of 1970 on; how many nodes are declared; and the
-- directories of roots and of replicas, and the consumers, of which each replica has one too, each
-- in the order of their declaration
pub record WorldState : Type 0 where
  pub clock : ℕ
  pub nodes : ℕ
  pub provider_nodes : List ProviderNode
  pub consumer_nodes : List ConsumerNode

-- no node, and the time 0
abbrev pub no_nodes : WorldState
no_nodes = record { clock = 0; nodes = 0; provider_nodes = []; consumer_nodes = [] }

-- ---- nodes by their names

abbrev pub has_node : List ℕ → WorldState → Bool
has_node name state =
    list_any (is_provider_node name) state.provider_nodes
    || list_any (is_consumer_node name) state.consumer_nodes

abbrev pub provider_node_named : List ℕ → WorldState → Option ProviderNode
provider_node_named name state = find (is_provider_node name) state.provider_nodes

abbrev pub consumer_node_named : List ℕ → WorldState → Option ConsumerNode
consumer_node_named name state = find (is_consumer_node name) state.consumer_nodes

-- the first that the test picks is changed
abbrev pub first_changed : {X : Type 0} → (X → Bool) → (X → X) → List X → List X
first_changed test change [] = []
first_changed test change (x ∷ xs) =
    if test x then change x ∷ xs else x ∷ first_changed test change xs

-- the providers where that of the name is now this, and the consumers
abbrev pub with_provider : List ℕ → ProviderState → List ProviderNode → List ProviderNode
with_provider name provider provider_nodes =
    first_changed (is_provider_node name)
    (λ (provider_node : ProviderNode). record provider_node { provider = provider }) provider_nodes

abbrev pub with_consumer_node : List ℕ → ConsumerNode → List ConsumerNode → List ConsumerNode
with_consumer_node name after consumer_nodes =
    first_changed (is_consumer_node name) (λ (consumer_node : ConsumerNode). after) consumer_nodes

abbrev pub with_provider_node : List ℕ → ProviderNode → List ProviderNode → List ProviderNode
with_provider_node name after provider_nodes =
    first_changed (is_provider_node name) (λ (provider_node : ProviderNode). after) provider_nodes

-- the root at the top of the providers of this node
abbrev pub top_of : WorldState → List ℕ → List ℕ
top_of state name = top_within (length state.consumer_nodes) state.consumer_nodes name

-- this node is the other one, or gets its content from it, directly or not
abbrev pub is_fed : WorldState → List ℕ → List ℕ → Bool
is_fed state other name =
    is_fed_within (length state.consumer_nodes) state.consumer_nodes other name

-- the state after an order with the lines that it reports, or why the order is refused
abbrev pub StepOutcome : Type 0
StepOutcome = Result (WorldState × List ReportLine) Cause

-- ---- declarations

abbrev pub where_room : WorldState → WorldState → StepOutcome
where_room state after =
    if nat_le most_nodes state.nodes then Err (LimitReached most_nodes) else Ok (after, [])

-- node number k supplies its content in the history k
abbrev pub new_provider_node : WorldState → Kind → List ℕ → List (List TypeAndValue) → ProviderNode
new_provider_node state kind name suffix =
    record {
      name = name;
      provider = fresh suffix (state.nodes + 1) (state.nodes + 1) kind;
      notes = [];
    }

abbrev pub with_root : WorldState → List ℕ → List (List TypeAndValue) → WorldState
with_root state name suffix =
    record state {
      nodes = state.nodes + 1;
      provider_nodes = state.provider_nodes ++ new_provider_node state Root name suffix ∷ [];
    }

abbrev pub declare_root : WorldState → List ℕ → List (List TypeAndValue) → StepOutcome
declare_root state name suffix =
    if has_node name state then Err NameTaken else where_room state (with_root state name suffix)

abbrev pub with_consumer : WorldState → ConsumerNode → WorldState
with_consumer state consumer_node =
    record state {
      nodes = state.nodes + 1;
      consumer_nodes = state.consumer_nodes ++ consumer_node ∷ [];
    }

-- a replica has a directory with the empty suffix, which holds what its consumer takes
abbrev pub with_replica : WorldState → ConsumerNode → WorldState
with_replica state consumer_node = record state {
  nodes = state.nodes + 1;
  provider_nodes =
      state.provider_nodes ++ new_provider_node state Replica consumer_node.name [] ∷ [];
  consumer_nodes = state.consumer_nodes ++ consumer_node ∷ [];
}

-- a consumer of a provider
abbrev pub follow : WorldState → Search → WorldState → Option ProviderNode → StepOutcome
follow state search after None = Err UnknownNode
follow state search after (Some provider_node) =
    if not (is_offered search provider_node) then Err OutsideSuffix else where_room state after

abbrev pub declare_consumer_node : WorldState → List ℕ → List ℕ → Search → WorldState → StepOutcome
declare_consumer_node state name source search after =
    if has_node name state then Err NameTaken
    else follow state search after (provider_node_named source state)

abbrev pub declare_consumer : WorldState → List ℕ → List ℕ → Search → Bool → StepOutcome
declare_consumer state name source search reload =
    declare_consumer_node state name source search
    (with_consumer state (new_consumer_node name source search reload))

abbrev pub declare_replica : WorldState → List ℕ → List ℕ → Search → Bool → StepOutcome
declare_replica state name source search reload =
    declare_consumer_node state name source search
    (with_replica state (new_consumer_node name source search reload))

-- ---- writes

abbrev pub write_to : WorldState → List ℕ → Change → Option ProviderNode → StepOutcome
write_to state name change None = Err UnknownNode
write_to state name change (Some provider_node) =
    Ok (
      record state {
        provider_nodes = with_provider name
            (wrote_change provider_node.provider state.clock change) state.provider_nodes;
      },
      Wrote name (change_code provider_node.provider state.clock change)
          (length (wrote_change provider_node.provider state.clock change).directory.writes) ∷ [],
    )

-- a provider gets another limit
abbrev pub limited :
    WorldState → List ℕ → (ProviderState → ProviderState) → Option ProviderNode → StepOutcome
limited state name change None = Err UnknownNode
limited state name change (Some provider_node) =
    Ok (
      record state {
        provider_nodes = with_provider name (change provider_node.provider) state.provider_nodes;
      },
      [],
    )

-- its session log keeps n touches at most from now on
abbrev pub limit_log : WorldState → List ℕ → ℕ → StepOutcome
limit_log state name limit =
    limited state name (λ provider. log_limited provider limit) (provider_node_named name state)

-- and the queue of each of its searches n messages at most, from the next write on
abbrev pub limit_queue : WorldState → List ℕ → ℕ → StepOutcome
limit_queue state name limit =
    limited state name (λ provider. queue_limited provider limit) (provider_node_named name state)

-- ---- consumers

-- the state where a provider and its consumer are now these
abbrev pub with_pair : WorldState → Agreement → WorldState
with_pair state pair =
    record state {
      provider_nodes = with_provider pair.consumer_node.source pair.provider state.provider_nodes;
      consumer_nodes =
          with_consumer_node pair.consumer_node.name pair.consumer_node state.consumer_nodes;
    }

abbrev pub with_own : WorldState → Result ProviderNode Cause → Result WorldState Cause
with_own state (Ok own) =
    Ok (record state { provider_nodes = with_provider_node own.name own state.provider_nodes })
with_own state (Err cause) = Err cause

abbrev pub commits_in :
    WorldState → Search → List StoredStage → Option ProviderNode → Result WorldState Cause
commits_in state search stages None = Ok state
commits_in state search stages (Some own) =
    with_own state (commits_all state.clock search own stages)

-- a replica commits these stages to its own directory; another consumer has none
abbrev pub commits_of : WorldState → ConsumerNode → List StoredStage → Result WorldState Cause
commits_of state consumer_node stages =
    commits_in state consumer_node.consumer.spec stages
    (provider_node_named consumer_node.name state)

abbrev pub with_lines : List ReportLine → Result WorldState Cause → StepOutcome
with_lines lines (Ok state) = Ok (state, lines)
with_lines lines (Err cause) = Err cause

-- what took effect in the event is committed at its end
abbrev pub with_outcome : WorldState → ExchangeOutcome → StepOutcome
with_outcome state (Ok next) =
    with_lines next.1 (commits_of (with_pair state next.0) next.0.consumer_node (stages_of next.1))
with_outcome state (Err cause) = Err cause

abbrev pub lineage_of : WorldState → ProviderNode → Lineage
lineage_of state provider_node =
    record { top = top_of state provider_node.name; notes = provider_node.notes }

abbrev pub between :
    WorldState → ConsumerNode → (Agreement → ExchangeOutcome) → Option ProviderNode → StepOutcome
between state consumer_node part None = Err UnknownNode
between state consumer_node part (Some provider_node) =
    with_outcome state (part (record {
      provider = provider_node.provider;
      consumer_node = consumer_node;
      lineage = lineage_of state provider_node;
    }))

-- what goes on between a consumer and its provider
abbrev pub exchange_of :
    WorldState → (Agreement → ExchangeOutcome) → Option ConsumerNode → StepOutcome
exchange_of state part None = Err UnknownNode
exchange_of state part (Some consumer_node) =
    between state consumer_node part (provider_node_named consumer_node.source state)

abbrev pub exchange : WorldState → List ℕ → (Agreement → ExchangeOutcome) → StepOutcome
exchange state name part = exchange_of state part (consumer_node_named name state)

-- ---- other providers, and other wishes

-- the consumer of this name follows another provider
abbrev pub pointed : List ℕ → List ℕ → WorldState → WorldState
pointed name source state =
    record state {
      consumer_nodes = first_changed (is_consumer_node name)
          (λ (consumer_node : ConsumerNode). record consumer_node { source = source })
          state.consumer_nodes;
    }

abbrev pub pointed_after : List ℕ → List ℕ → StepOutcome → StepOutcome
pointed_after name source (Ok next) = Ok (pointed name source next.0, next.1)
pointed_after name source (Err cause) = Err cause

-- a busy consumer is cut, and keeps its cookie and its entries
abbrev pub repoint_to :
    WorldState → List ℕ → List ℕ → ConsumerNode → Option ProviderNode → StepOutcome
repoint_to state name source consumer_node None = Err UnknownNode
repoint_to state name source consumer_node (Some provider_node) =
    if is_fed state name source then Err Circle
    else if not (is_offered consumer_node.consumer.spec provider_node) then Err OutsideSuffix
    else pointed_after name source (exchange state name idle)

abbrev pub repoint_of : WorldState → List ℕ → List ℕ → Option ConsumerNode → StepOutcome
repoint_of state name source None = Err UnknownNode
repoint_of state name source (Some consumer_node) =
    repoint_to state name source consumer_node (provider_node_named source state)

abbrev pub repoint : WorldState → List ℕ → List ℕ → StepOutcome
repoint state name source = repoint_of state name source (consumer_node_named name state)

abbrev pub respec_at : WorldState → List ℕ → Search → Option ProviderNode → StepOutcome
respec_at state name search None = Err UnknownNode
respec_at state name search (Some provider_node) =
    if not (is_offered search provider_node) then Err OutsideSuffix
    else exchange state name (respecs search)

abbrev pub respec_of : WorldState → List ℕ → Search → Option ConsumerNode → StepOutcome
respec_of state name search None = Err UnknownNode
respec_of state name search (Some consumer_node) =
    respec_at state name search (provider_node_named consumer_node.source state)

abbrev pub respec : WorldState → List ℕ → Search → StepOutcome
respec state name search = respec_of state name search (consumer_node_named name state)

-- ---- entries

-- the entries of a node: those of its directory where it has one, or else of the consumer
abbrev pub shown_of : Option ProviderNode → Option ConsumerNode → Option (List Entry)
shown_of (Some provider_node) found = Some (entries_of provider_node.provider.directory)
shown_of None (Some consumer_node) = Some consumer_node.consumer.copy.held
shown_of None None = None

abbrev pub show_of : WorldState → List ℕ → Option (List Entry) → StepOutcome
show_of state name None = Err UnknownNode
show_of state name (Some entries) = Ok (state, Shown name entries ∷ [])

-- ---- orders

abbrev pub step : WorldState → Order → StepOutcome
step state (asks.Provider name suffix) = declare_root state name suffix
step state (asks.Consumer name source search reload) =
    declare_consumer state name source search reload
step state (asks.Replica name source search reload) =
    declare_replica state name source search reload
step state (asks.Clock time) = Ok (record state { clock = time }, Clocked time ∷ [])
step state (asks.Write name change) = write_to state name change (provider_node_named name state)
step state (asks.OpenOnce name) = exchange state name (opens RefreshOnly)
step state (asks.OpenStay name) = exchange state name (opens RefreshAndPersist)
step state (asks.Send name count) = exchange state name (sent count)
step state (asks.Take name count) = exchange state name (takes count)
step state (asks.Cut name) = exchange state name cut
step state (asks.Settle name) = exchange state name settles
step state (asks.Lose name) = exchange state name loses_cookie
step state (asks.Cookie name text) = exchange state name (sets_cookie text)
step state (asks.Repoint name source) = repoint state name source
step state (asks.Respec name search) = respec state name search
step state (asks.Log name limit) = limit_log state name limit
step state (asks.Queue name limit) = limit_queue state name limit
step state (asks.Show name) =
    show_of state name (shown_of (provider_node_named name state) (consumer_node_named name state))

-- ---- what the code answers

-- the state and the lines are those of a step that is done
abbrev pub IsStep : StepOutcome → WorldState → List ℕ → Type 0
IsStep (Err cause) new text = ⊥
IsStep (Ok next) new text = (new ≡ next.0) × (text ≡ lines_text next.1)

-- what a part of a step answers and leaves; out of memory says nothing
abbrev pub DoesStep : StepOutcome → WorldState → Result (List ℕ) Cause → Type 0
DoesStep next new (Ok text) = IsStep next new text
DoesStep next new (Err NoMemory) = Unit {0}
DoesStep next new (Err cause) = next ≡ Err cause

-- what a step answers and leaves
abbrev pub AnswersStep : ℕ → StepOutcome → WorldState → Result (List ℕ) ScriptFault → Type 0
AnswersStep line next new (Ok text) = IsStep next new text
AnswersStep line next new (Err fault) = RefusedAt line fault.line fault.cause next

abbrev pub StepsBy : WorldState → ℕ → Order → WorldState → Result (List ℕ) ScriptFault → Type 0
StepsBy old line order new result = AnswersStep line (step old order) new result
