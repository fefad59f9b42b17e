-- What holds of the nodes of a script at every moment of a run, by the orders and the lines so far.
use Rattle.std.specs.Prelude.{◌≡◌, ◌<◌, ◌≤◌, ◌+◌, ℕ, Bool, true, false, Some, None, is_some, IfSome, List, [], ◌∷◌, length, map, take, slice_get, count_by}
use Rattle.std.specs.Str.{bytes_eq}
use Rattle.dn_names.specs.Names.{TypeAndValue}
use Rattle.entry_tree.specs.Selection.{Search, select}
use Rattle.entry_tree.specs.declared.entry.Entry.{Entry}
use Rattle.entry_tree.specs.declared.op.Write.{Write}
use Rattle.directory_writes.specs.Directory.{DirectoryState, entries_after}
use Rattle.sync_provider.specs.declared.provider.Kind.{Kind}
use Rattle.sync_provider.specs.declared.provider.Kind.TheVariants.{Root, Replica}
use Rattle.cascade_nodes.specs.declared.node.ProviderNode.{ProviderNode}
use Rattle.cascade_nodes.specs.declared.node.ConsumerNode.{ConsumerNode}
use Rattle.cascade_nodes.proofs.Fed.{AreApart}
use Rattle.cascade_report.specs.declared.notes.Origin.{Origin}
use Rattle.cascade_laws.specs.Headline.{time_from, accepted_from, is_declaration, IsDeclared, IsConsumer, follows_now, commits_reported, stored_of, known_of}
use Rattle.cascade_script.specs.Orders.{Order}
use Rattle.cascade_script.specs.Orders.{Order as asks}
use Rattle.cascade_world.specs.Origins.{CommitOrigin}
use Rattle.cascade_world.specs.ReportLines.{Storing, ReportLine}
use Rattle.cascade_world.specs.World.{WorldState}
use Rattle.cascade_laws.proofs.Feeding.{IsSource, IsFed, Promises}
use Rattle.cascade_world.proofs.Finding.{provider_nodes_by, consumer_nodes_by}
use Rattle.cascade_world.proofs.Climbing.{AllClimb}
use Rattle.cascade_world.proofs.Owning.{AllOwned}
use Rattle.cascade_laws.proofs.Saying.{clock_reported}

-- ---- by the orders

-- the root was declared as the node of this number, with this suffix; its writes are those that were accepted since
pub record IsRoot (before : List Order) (name : List ℕ) (number : ℕ) (suffix : List (List TypeAndValue)) (writes : List Write) : Type 0 where
  pub later : List Order
  pub declared : IsDeclared before number (asks.Provider name suffix) later
  pub accepted : writes ≡ accepted_from number suffix name (time_from 0 declared.earlier) [] later

-- the replica was declared as the node of this number
pub record IsReplica (before : List Order) (name : List ℕ) (number : ℕ) : Type 0 where
  pub source : List ℕ
  pub search : Search
  pub reload : Bool
  pub later : List Order
  pub declared : IsDeclared before number (asks.Replica name source search reload) later

abbrev pub IsOfKind : List Order → List ℕ → DirectoryState → Kind → Type 0
IsOfKind before name d Root = IsRoot before name d.history d.suffix d.writes
IsOfKind before name d Replica = IsReplica before name d.history

abbrev pub IsProviderNode : List Order → ProviderNode → Type 0
IsProviderNode before provider_node = IsOfKind before provider_node.name provider_node.provider.directory provider_node.provider.kind

abbrev pub AreProviderNodes : List Order → List ProviderNode → Type 0
AreProviderNodes before provider_nodes = (name : List ℕ) (provider_node : ProviderNode) → provider_nodes_by provider_nodes name ≡ Some provider_node → IsProviderNode before provider_node

-- each consumer follows what the orders say, and nothing else is one
abbrev pub AreConsumers : List Order → List ConsumerNode → Type 0
AreConsumers before consumer_nodes =
    (name : List ℕ) (f : ConsumerNode) → consumer_nodes_by consumer_nodes name ≡ Some f → IsConsumer before name f.source f.consumer.spec f.consumer.reload

abbrev pub AreStrangers : List Order → List ConsumerNode → Type 0
AreStrangers before consumer_nodes = (name : List ℕ) → consumer_nodes_by consumer_nodes name ≡ None → follows_now before name ≡ None

pub record ByOrders (before : List Order) (state : WorldState) : Type 0 where
  pub time : state.clock ≡ time_from 0 before
  pub count : state.nodes ≡ count_by is_declaration before
  pub provider_nodes : AreProviderNodes before state.provider_nodes
  pub consumers : AreConsumers before state.consumer_nodes
  pub strangers : AreStrangers before state.consumer_nodes

-- ---- by the lines: what replicas committed

abbrev pub noted : Storing → CommitOrigin
noted stored = record { search = stored.search; origin = stored.origin }

-- each `stored` line of the replica of this name and number is one commit, which left the entries that it reported
pub record HasCommitted (number : ℕ) (said : List ReportLine) (name : List ℕ) (notes : List CommitOrigin) (writes : List Write) : Type 0 where
  pub commits : writes ≡ commits_reported number name said
  pub notes_are : notes ≡ map noted (stored_of name said)
  pub held : entries_after number writes ≡ (known_of name said).entries
  pub counted : length writes ≡ length (stored_of name said)
  pub each : (at : ℕ) (stored : Storing) → slice_get (stored_of name said) at ≡ Some stored → entries_after number (take (at + 1) writes) ≡ stored.entries

abbrev pub CommittedBy : List ReportLine → ProviderNode → Kind → Type 0
CommittedBy said provider_node Root = Unit {0}
CommittedBy said provider_node Replica =
    HasCommitted provider_node.provider.directory.history said provider_node.name provider_node.notes provider_node.provider.directory.writes

abbrev pub IsCommitter : List ReportLine → ProviderNode → Type 0
IsCommitter said provider_node = CommittedBy said provider_node provider_node.provider.kind

abbrev pub AreCommitters : List ReportLine → List ProviderNode → Type 0
AreCommitters said provider_nodes = (name : List ℕ) (provider_node : ProviderNode) → provider_nodes_by provider_nodes name ≡ Some provider_node → IsCommitter said provider_node

-- all but that of this name
abbrev pub AreCommittersBut : List ℕ → List ReportLine → List ProviderNode → Type 0
AreCommittersBut hole said provider_nodes =
    (name : List ℕ) (provider_node : ProviderNode) → provider_nodes_by provider_nodes name ≡ Some provider_node → bytes_eq name hole ≡ false → IsCommitter said provider_node

-- ---- by the lines: what consumers are fed

abbrev pub AreSources : List ProviderNode → Type 0
AreSources provider_nodes =
    (name : List ℕ) (provider_node : ProviderNode) → provider_nodes_by provider_nodes name ≡ Some provider_node
    → IsSource provider_node.provider.directory.history provider_node.provider.directory.suffix provider_node.provider

-- each provider is a node of its own
pub record AreNumbered (nodes : ℕ) (provider_nodes : List ProviderNode) : Type 0 where
  pub within : (name : List ℕ) (provider_node : ProviderNode) → provider_nodes_by provider_nodes name ≡ Some provider_node → provider_node.provider.directory.history ≤ nodes
  pub apart : (name other : List ℕ) (r s : ProviderNode) → provider_nodes_by provider_nodes name ≡ Some r → provider_nodes_by provider_nodes other ≡ Some s
      → r.provider.directory.history ≡ s.provider.directory.history → name ≡ other

-- the consumer follows a provider that is there, and is fed by it as the lines so far report; and its cookie promises
-- content of whichever provider's writes it names
pub record IsConsumerNode (said : List ReportLine) (nodes : ℕ) (provider_nodes : List ProviderNode) (f : ConsumerNode) : Type 0 where
  pub provider_node : ProviderNode
  pub there : provider_nodes_by provider_nodes f.source ≡ Some provider_node
  pub fed : IsFed provider_node.provider.directory.history provider_node.provider f (known_of f.name said)
  pub promised : (name : List ℕ) (r : ProviderNode) → provider_nodes_by provider_nodes name ≡ Some r
      → Promises r.provider.directory.history f.consumer.spec r.provider.directory.writes (known_of f.name said)
  pub undeclared : (number : ℕ) → nodes < number → number ≤ 16 → Promises number f.consumer.spec [] (known_of f.name said)

abbrev pub AreConsumerNodes : List ReportLine → ℕ → List ProviderNode → List ConsumerNode → Type 0
AreConsumerNodes said nodes provider_nodes consumer_nodes = (name : List ℕ) (f : ConsumerNode) → consumer_nodes_by consumer_nodes name ≡ Some f → IsConsumerNode said nodes provider_nodes f

-- no two consumers of one provider have a search in common
abbrev pub AllApart : List ConsumerNode → Type 0
AllApart consumer_nodes =
    (name other : List ℕ) (f g : ConsumerNode) → consumer_nodes_by consumer_nodes name ≡ Some f → consumer_nodes_by consumer_nodes other ≡ Some g
    → bytes_eq other name ≡ false → f.source ≡ g.source → AreApart f g

-- a replica has a consumer, and a root has none
abbrev pub IsManned : Kind → Bool → Type 0
IsManned Root found = found ≡ false
IsManned Replica found = found ≡ true

abbrev pub AreManned : List ProviderNode → List ConsumerNode → Type 0
AreManned provider_nodes consumer_nodes =
    (name : List ℕ) (provider_node : ProviderNode) → provider_nodes_by provider_nodes name ≡ Some provider_node → IsManned provider_node.provider.kind (is_some (consumer_nodes_by consumer_nodes name))

-- entries are what is wanted of a prefix of the writes of a root that is there
pub record IsRooted (provider_nodes : List ProviderNode) (search : Search) (entries : List Entry) (origin : Origin) : Type 0 where
  pub provider_node : ProviderNode
  pub there : provider_nodes_by provider_nodes origin.root ≡ Some provider_node
  pub root : provider_node.provider.kind ≡ Root
  pub prefix : origin.number ≤ length provider_node.provider.directory.writes
  pub exactly : entries ≡ select search (entries_after provider_node.provider.directory.history (take origin.number provider_node.provider.directory.writes))

-- where an origin is reported
abbrev pub AreRooted : List ProviderNode → List Storing → Type 0
AreRooted provider_nodes [] = Unit {0}
AreRooted provider_nodes (stored ∷ more) = IfSome stored.origin (IsRooted provider_nodes stored.search stored.entries) × AreRooted provider_nodes more

pub record Feeds (said : List ReportLine) (state : WorldState) : Type 0 where
  pub clock : state.clock ≡ clock_reported said
  pub few : state.nodes ≤ 16
  pub counted : length state.consumer_nodes ≤ state.nodes
  pub sources : AreSources state.provider_nodes
  pub numbered : AreNumbered state.nodes state.provider_nodes
  pub consumer_nodes : AreConsumerNodes said state.nodes state.provider_nodes state.consumer_nodes
  pub apart : AllApart state.consumer_nodes
  pub owned : AllOwned state.provider_nodes state.consumer_nodes
  pub manned : AreManned state.provider_nodes state.consumer_nodes
  pub climbs : AllClimb state.consumer_nodes
  pub rooted : (name : List ℕ) → AreRooted state.provider_nodes (stored_of name said)

pub record Tracks (before : List Order) (said : List ReportLine) (state : WorldState) : Type 0 where
  pub orders : ByOrders before state
  pub feeds : Feeds said state
  pub commits : AreCommitters said state.provider_nodes
