-- The nodes of a script by their names, and which of them stand above others.
use Rattle.std.specs.Prelude.{ℕ, zero, suc, Bool, false, ◌||◌, find, Option, Some, None, option_map, List, []}
use Rattle.std.specs.Str.{bytes_eq}
use Rattle.dn_names.specs.Names.{is_at_or_below}
use Rattle.entry_tree.specs.Selection.{Search}
use Rattle.sync_consumer.specs.Taking.{nothing}
use Rattle.cascade_nodes.specs.declared.node.ProviderNode.{ProviderNode}
use Rattle.cascade_nodes.specs.declared.node.ConsumerNode.{ConsumerNode}

abbrev pub is_provider_node : List ℕ → ProviderNode → Bool
is_provider_node name provider_node = bytes_eq name provider_node.name

abbrev pub is_consumer_node : List ℕ → ConsumerNode → Bool
is_consumer_node name consumer_node = bytes_eq name consumer_node.name

-- the name of the provider from which the node of this name gets its content,
-- where it gets it from one
abbrev pub source_of : List ConsumerNode → List ℕ → Option (List ℕ)
source_of consumer_nodes name =
    option_map (λ (consumer_node : ConsumerNode). consumer_node.source)
    (find (is_consumer_node name) consumer_nodes)

-- a consumer has no entries, no cookie and no search at first
abbrev pub new_consumer_node : List ℕ → List ℕ → Search → Bool → ConsumerNode
new_consumer_node name source search reload =
    record {
      name = name;
      source = source;
      consumer = record { spec = search; reload = reload; copy = nothing };
      link = [];
      search = None;
    }

-- the base of what is wanted is at or below the suffix of a provider
abbrev pub is_offered : Search → ProviderNode → Bool
is_offered search provider_node = is_at_or_below search.base provider_node.provider.directory.suffix

-- ---- n steps up at most

abbrev pub top_above : (List ℕ → List ℕ) → List ℕ → Option (List ℕ) → List ℕ
top_above next name None = name
top_above next name (Some source) = next source

-- the node at the top of the providers of this one
abbrev pub top_within : ℕ → List ConsumerNode → List ℕ → List ℕ
top_within zero consumer_nodes name = name
top_within (suc steps) consumer_nodes name =
    top_above (λ source. top_within steps consumer_nodes source) name
    (source_of consumer_nodes name)

abbrev pub holds_above : (List ℕ → Bool) → Option (List ℕ) → Bool
holds_above test None = false
holds_above test (Some source) = test source

-- this node is the other one, or gets its content from it, directly or not
abbrev pub is_fed_within : ℕ → List ConsumerNode → List ℕ → List ℕ → Bool
is_fed_within zero consumer_nodes other name = bytes_eq name other
is_fed_within (suc steps) consumer_nodes other name =
    bytes_eq name other
    || holds_above (λ source. is_fed_within steps consumer_nodes other source)
    (source_of consumer_nodes name)
