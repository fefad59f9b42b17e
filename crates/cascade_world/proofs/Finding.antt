-- Nodes by their names, where one more is declared or one is changed.
use Rattle.std.proofs.Common.{◌≡◌, ◌⊎◌, ℕ, false, Option, Some, None, List, [], ◌∷◌, ◌++◌, ap, sym, ◌∙◌, inl, inr}
use Rattle.std.proofs.lemmas.Bool.{cases_Bool, or_parts}
use Rattle.std.specs.List.{list_any}
use Rattle.std.specs.Prelude.{find, is_some}
use Rattle.std.specs.Str.{bytes_eq}
use Rattle.sync_provider.specs.Machine.{ProviderState}
use Rattle.cascade_nodes.specs.declared.node.ProviderNode.{ProviderNode}
use Rattle.cascade_nodes.specs.declared.node.ConsumerNode.{ConsumerNode}
use Rattle.cascade_world.specs.World.{WorldState, is_provider_node, is_consumer_node, has_node, first_changed, with_consumer_node, with_provider, with_provider_node}
use Rattle.cascade_world.proofs.SameNames.{itself, pointed_at}
use Rattle.cascade_world.proofs.Lists.{find-changed, find-unchanged, find-last, find-passed, find-nowhere}
use Rattle.entry_tree.proofs.Finding.{found_passes}
use Rattle.entry_tree.proofs.NameKeys.{same_bytes}

-- what stands at this name now, and the same as before at the others
pub record IsChanged {X : Type 0} (old new : List ℕ → Option X) (name : List ℕ) (now : X) : Type 0 where
  pub here : new name ≡ Some now
  pub others : (other : List ℕ) → bytes_eq other name ≡ false → new other ≡ old other

-- what is found then: what stands at the name now, or what was found before at another
pub found_after : {X : Type 0} (old new : List ℕ → Option X) (name : List ℕ) (now : X) → IsChanged old new name now → (other : List ℕ) (x : X) → new other ≡ Some x
    → ((other ≡ name) × (now ≡ x)) ⊎ ((bytes_eq other name ≡ false) × (old other ≡ Some x))
found_after old new name now changed other x e =
    elim (cases_Bool (bytes_eq other name)) [
      | inl hit ↦
          let same : other ≡ name = same_bytes other name hit in
          let both : Some now ≡ Some x = sym changed.here ∙ ap new (sym same) ∙ e in
          let is : now ≡ x = cc in
          inl (same, is)
      | inr miss ↦ inr (miss, sym (changed.others other miss) ∙ e)
    ]

-- the provider nodes and the consumer nodes by their names
abbrev pub provider_nodes_by : List ProviderNode → List ℕ → Option ProviderNode
provider_nodes_by provider_nodes name = find (is_provider_node name) provider_nodes

-- the consumer node of a name
abbrev pub consumer_nodes_by : List ConsumerNode → List ℕ → Option ConsumerNode
consumer_nodes_by consumer_nodes name = find (is_consumer_node name) consumer_nodes

-- the provider node that is found by a name has it
pub provider_node_name : (provider_nodes : List ProviderNode) (name : List ℕ) (provider_node : ProviderNode) → provider_nodes_by provider_nodes name ≡ Some provider_node → name ≡ provider_node.name
provider_node_name provider_nodes name provider_node e = same_bytes name provider_node.name (found_passes (is_provider_node name) provider_nodes provider_node e)

-- one name, one provider node
pub same_provider_node : (provider_nodes : List ProviderNode) (name other : List ℕ) (provider_node there : ProviderNode) → provider_nodes_by provider_nodes name ≡ Some provider_node → provider_nodes_by provider_nodes other ≡ Some there → name ≡ other → provider_node ≡ there
same_provider_node provider_nodes name other provider_node there e e' same = let both : Some provider_node ≡ Some there = sym e ∙ ap (provider_nodes_by provider_nodes) same ∙ e' in cc

-- the consumer node that is found by a name has it
pub consumer_node_name : (consumer_nodes : List ConsumerNode) (name : List ℕ) (f : ConsumerNode) → consumer_nodes_by consumer_nodes name ≡ Some f → name ≡ f.name
consumer_node_name consumer_nodes name f e = same_bytes name f.name (found_passes (is_consumer_node name) consumer_nodes f e)

-- another provider at the node of a name leaves the other nodes
pub provider_changed : (provider_nodes : List ProviderNode) (name : List ℕ) (provider_node : ProviderNode) (provider : ProviderState) → provider_nodes_by provider_nodes name ≡ Some provider_node
    → IsChanged (provider_nodes_by provider_nodes) (provider_nodes_by (with_provider name provider provider_nodes)) name (record provider_node { provider = provider })
provider_changed provider_nodes name provider_node provider e = record {
  here = find-changed (is_provider_node name) (λ (r : ProviderNode). record r { provider = provider }) provider_nodes provider_node e (found_passes (is_provider_node name) provider_nodes provider_node e);
  others =
      λ other miss. find-unchanged (is_provider_node name) (is_provider_node other) (λ (r : ProviderNode). record r { provider = provider }) provider_nodes
      (λ r hit. let apart : is_provider_node other r ≡ false = ap (bytes_eq other) (sym (same_bytes name r.name hit)) ∙ miss in (apart, apart));
}

-- another consumer node of a name leaves the other nodes
pub consumer_node_changed : (consumer_nodes : List ConsumerNode) (name : List ℕ) (f after : ConsumerNode) → consumer_nodes_by consumer_nodes name ≡ Some f → after.name ≡ name
    → IsChanged (consumer_nodes_by consumer_nodes) (consumer_nodes_by (with_consumer_node name after consumer_nodes)) name after
consumer_node_changed consumer_nodes name f after e same = record {
  here = find-changed (is_consumer_node name) (λ (g : ConsumerNode). after) consumer_nodes f e (ap (bytes_eq name) same ∙ itself name);
  others =
      λ other miss. find-unchanged (is_consumer_node name) (is_consumer_node other) (λ (g : ConsumerNode). after) consumer_nodes
      (λ g hit. (ap (bytes_eq other) (sym (same_bytes name g.name hit)) ∙ miss, ap (bytes_eq other) same ∙ miss));
}

-- another provider node of a name leaves the other nodes
pub provider_node_changed : (provider_nodes : List ProviderNode) (name : List ℕ) (provider_node after : ProviderNode) → provider_nodes_by provider_nodes name ≡ Some provider_node → after.name ≡ name
    → IsChanged (provider_nodes_by provider_nodes) (provider_nodes_by (with_provider_node name after provider_nodes)) name after
provider_node_changed provider_nodes name provider_node after e same = record {
  here = find-changed (is_provider_node name) (λ (r : ProviderNode). after) provider_nodes provider_node e (ap (bytes_eq name) same ∙ itself name);
  others =
      λ other miss. find-unchanged (is_provider_node name) (is_provider_node other) (λ (r : ProviderNode). after) provider_nodes
      (λ r hit. (ap (bytes_eq other) (sym (same_bytes name r.name hit)) ∙ miss, ap (bytes_eq other) same ∙ miss));
}

-- a consumer with another provider
pub pointed_changed : (consumer_nodes : List ConsumerNode) (name source : List ℕ) (f : ConsumerNode) → consumer_nodes_by consumer_nodes name ≡ Some f
    → IsChanged (consumer_nodes_by consumer_nodes) (consumer_nodes_by (first_changed (is_consumer_node name) (pointed_at source) consumer_nodes)) name (pointed_at source f)
pointed_changed consumer_nodes name source f e = record {
  here = find-changed (is_consumer_node name) (pointed_at source) consumer_nodes f e (found_passes (is_consumer_node name) consumer_nodes f e);
  others =
      λ other miss. find-unchanged (is_consumer_node name) (is_consumer_node other) (pointed_at source) consumer_nodes
      (λ g hit. let apart : is_consumer_node other g ≡ false = ap (bytes_eq other) (sym (same_bytes name g.name hit)) ∙ miss in (apart, apart));
}

-- what is changed is found where it was found before
pub found_still : {X : Type 0} (old new : List ℕ → Option X) (name : List ℕ) (was now : X) → old name ≡ Some was → IsChanged old new name now → (other : List ℕ) → is_some (new other) ≡ is_some (old other)
found_still old new name was now e changed other =
    elim (cases_Bool (bytes_eq other name)) [
      | inl hit ↦
          let same : other ≡ name = same_bytes other name hit in
          ap (λ n. is_some (new n)) same ∙ ap is_some (changed.here) ∙ sym (ap (λ n. is_some (old n)) same ∙ ap is_some e)
      | inr miss ↦ ap is_some (changed.others other miss)
    ]

-- the name of a node to come is nowhere
pub record IsNew (state : WorldState) (name : List ℕ) : Type 0 where
  pub provider_node : provider_nodes_by state.provider_nodes name ≡ None
  pub consumer_node : consumer_nodes_by state.consumer_nodes name ≡ None

-- a name that no node has is new
pub is_new : (state : WorldState) (name : List ℕ) → has_node name state ≡ false → IsNew state name
is_new state name new =
    let parts = or_parts (list_any (is_provider_node name) state.provider_nodes) (list_any (is_consumer_node name) state.consumer_nodes) new in
    record { provider_node = find-nowhere (is_provider_node name) state.provider_nodes parts.0; consumer_node = find-nowhere (is_consumer_node name) state.consumer_nodes parts.1 }

-- one more node of a new name
pub provider_node_pushed : (provider_nodes : List ProviderNode) (s : ProviderNode) → provider_nodes_by provider_nodes s.name ≡ None → IsChanged (provider_nodes_by provider_nodes) (provider_nodes_by (provider_nodes ++ s ∷ [])) s.name s
provider_node_pushed provider_nodes s none = record { here = find-last (is_provider_node s.name) provider_nodes s none (itself s.name); others = λ other miss. find-passed (is_provider_node other) provider_nodes s miss }

-- one more consumer node leaves the others
pub consumer_node_pushed : (consumer_nodes : List ConsumerNode) (f : ConsumerNode) → consumer_nodes_by consumer_nodes f.name ≡ None → IsChanged (consumer_nodes_by consumer_nodes) (consumer_nodes_by (consumer_nodes ++ f ∷ [])) f.name f
consumer_node_pushed consumer_nodes f none = record { here = find-last (is_consumer_node f.name) consumer_nodes f none (itself f.name); others = λ other miss. find-passed (is_consumer_node other) consumer_nodes f miss }
