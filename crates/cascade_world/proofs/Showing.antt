-- What is shown of a node, by its place.
use Rattle.std.proofs.Common.{◌≡◌, ℕ, Some, None, List, [], ◌∷◌, get_or, refl, ap, sym, subst, ◌∙◌, append-nil}
use Rattle.std.specs.Prelude.{Ok, Err, position}
use Rattle.entry_tree.specs.declared.entry.Entry.{Entry}
use Rattle.entry_tree.proofs.Replacing.{find_no_place}
use Rattle.directory_writes.specs.Directory.{entries_of}
use Rattle.cascade_script.specs.declared.fault.Cause.TheVariants.{UnknownNode}
use Rattle.cascade_nodes.specs.declared.node.ProviderNode.{ProviderNode}
use Rattle.cascade_nodes.specs.declared.node.ConsumerNode.{ConsumerNode}
use Rattle.cascade_script.specs.Orders.Order.{Show}
use Rattle.cascade_report.specs.ReportLines.{text_of}
use Rattle.cascade_report.specs.ReportLines.ReportLine.{Shown}
use Rattle.cascade_world.specs.World.{WorldState, StepOutcome, IsStep, step, is_provider_node, is_consumer_node, consumer_node_named, shown_of, show_of}
use Rattle.cascade_world.proofs.Places.{found_at}

-- a `show` of a provider shows the entries after all its writes
pub shown_provider_node : (state : WorldState) (name : List ℕ) (i : ℕ) (r : ProviderNode) → position (is_provider_node name) state.provider_nodes ≡ Some i → r ≡ get_or state.provider_nodes i r
    → step state (Show name) ≡ Ok (state, Shown name (entries_of r.provider.directory) ∷ [])
shown_provider_node state name i r e is = ap (λ o. show_of state name (shown_of o (consumer_node_named name state))) (found_at (is_provider_node name) state.provider_nodes i r e is)

-- a `show` of a consumer shows the entries that it holds
pub shown_consumer_node : (state : WorldState) (name : List ℕ) (i : ℕ) (f : ConsumerNode) → position (is_provider_node name) state.provider_nodes ≡ None → position (is_consumer_node name) state.consumer_nodes ≡ Some i → f ≡ get_or state.consumer_nodes i f
    → step state (Show name) ≡ Ok (state, Shown name f.consumer.copy.held ∷ [])
shown_consumer_node state name i f none e is =
    ap (λ o. show_of state name (shown_of o (consumer_node_named name state))) (find_no_place (is_provider_node name) state.provider_nodes none)
    ∙ ap (λ o. show_of state name (shown_of None o)) (found_at (is_consumer_node name) state.consumer_nodes i f e is)

-- a show of no node is refused
pub shown_none : (state : WorldState) (name : List ℕ) → position (is_provider_node name) state.provider_nodes ≡ None → position (is_consumer_node name) state.consumer_nodes ≡ None → step state (Show name) ≡ Err UnknownNode
shown_none state name no_provider_node no_consumer_node =
    ap (λ o. show_of state name (shown_of o (consumer_node_named name state))) (find_no_place (is_provider_node name) state.provider_nodes no_provider_node)
    ∙ ap (λ o. show_of state name (shown_of None o)) (find_no_place (is_consumer_node name) state.consumer_nodes no_consumer_node)

is_shown : (s : StepOutcome) (state : WorldState) (name : List ℕ) (entries : List Entry) (text : List ℕ) → s ≡ Ok (state, Shown name entries ∷ []) → text ≡ text_of entries → IsStep s state text
is_shown s state name entries text e same = subst (λ o. IsStep o state text) (sym e) (refl, same ∙ sym (append-nil (text_of entries)))

-- a show of a provider node gives its entries
pub shows_provider_node : (state : WorldState) (name : List ℕ) (i : ℕ) (r : ProviderNode) (text : List ℕ) → position (is_provider_node name) state.provider_nodes ≡ Some i → r ≡ get_or state.provider_nodes i r → text ≡ text_of (entries_of r.provider.directory)
    → IsStep (step state (Show name)) state text
shows_provider_node state name i r text e is same = is_shown (step state (Show name)) state name (entries_of r.provider.directory) text (shown_provider_node state name i r e is) same

-- a show of a consumer node gives what it holds
pub shows_consumer_node : (state : WorldState) (name : List ℕ) (i : ℕ) (f : ConsumerNode) (text : List ℕ) → position (is_provider_node name) state.provider_nodes ≡ None → position (is_consumer_node name) state.consumer_nodes ≡ Some i → f ≡ get_or state.consumer_nodes i f
    → text ≡ text_of f.consumer.copy.held → IsStep (step state (Show name)) state text
shows_consumer_node state name i f text none e is same = is_shown (step state (Show name)) state name f.consumer.copy.held text (shown_consumer_node state name i f none e is) same
