-- Each open search of a provider is that of one of its consumers, which are few.
use Rattle.std.proofs.Common.{◌≡◌, ◌≤◌, ℕ, Bool, true, false, cond, nat_eq, eq-eqb, Option, Some, None, List, [], ◌∷◌, ◌++◌, length, refl, ap, sym, ◌∙◌, inl, inr, arith, subst}
use Rattle.std.specs.Prelude.{◌⊎◌, ◌||◌, find}
use Rattle.std.specs.Str.{bytes_eq}
use Rattle.std.proofs.lemmas.Bool.{or_right, true≢false}
use Rattle.sync_model.specs.Stream.{among}
use Rattle.sync_provider.specs.HandingOut.{search_at}
use Rattle.sync_provider.specs.Search.{SearchState}
use Rattle.sync_provider.proofs.Advanced.{OpensNone}
use Rattle.cascade_nodes.specs.declared.node.ConsumerNode.{ConsumerNode}
use Rattle.cascade_nodes.specs.declared.node.ProviderNode.{ProviderNode}
use Rattle.cascade_nodes.proofs.Fed.{HasRoom}
use Rattle.cascade_exchange.proofs.Owns.{OwnsNew}
use Rattle.cascade_exchange.specs.Exchange.{Agreement, agreement_of}
use Rattle.cascade_report.specs.Origins.{Lineage}
use Rattle.cascade_world.specs.World.{is_provider_node, is_consumer_node}
use Rattle.cascade_world.proofs.Finding.{IsChanged, found_after, provider_nodes_by, consumer_nodes_by}
use Rattle.cascade_world.proofs.SameNames.{itself}
use Rattle.cascade_world.proofs.Lists.{find-more, find-push}
use Rattle.entry_tree.proofs.NameKeys.{same_bytes}

-- a consumer of the provider of this name has the search
pub record HasOwner (consumer_nodes : List ConsumerNode) (name : List ℕ) (at : ℕ) : Type 0 where
  pub place : List ℕ
  pub owner : ConsumerNode
  pub there : consumer_nodes_by consumer_nodes place ≡ Some owner
  pub source : owner.source ≡ name
  pub search : owner.search ≡ Some at

-- each open search of a provider is that of one of its consumers
abbrev pub AllOwned : List ProviderNode → List ConsumerNode → Type 0
AllOwned provider_nodes consumer_nodes =
    (name : List ℕ) (provider_node : ProviderNode) → provider_nodes_by provider_nodes name ≡ Some provider_node → (at : ℕ) (s : SearchState) → search_at provider_node.provider.searches at ≡ Some s → HasOwner consumer_nodes name at

-- ---- one more node

-- a provider that is new has no search
pub owned_provider_node : (provider_nodes : List ProviderNode) (consumer_nodes : List ConsumerNode) (provider_node : ProviderNode) → provider_node.provider.searches ≡ [] → AllOwned provider_nodes consumer_nodes → AllOwned (provider_nodes ++ provider_node ∷ []) consumer_nodes
owned_provider_node provider_nodes consumer_nodes provider_node none owned name r e at s found = by (find-push (is_provider_node name) provider_nodes provider_node r e)
  where
    by : (find (is_provider_node name) provider_nodes ≡ Some r) ⊎ (provider_node ≡ r) → HasOwner consumer_nodes name at
    by (inl was) = owned name r was at s found
    by (inr new) =
        let bad : None ≡ Some s = ap (λ es. search_at es at) (sym none) ∙ ap (λ (x : ProviderNode). search_at x.provider.searches at) new ∙ found in
        let never : ⊥ = cc in
        absurd never

-- each open search has its consumer, with one more consumer node
pub owned_consumer_node : (provider_nodes : List ProviderNode) (consumer_nodes : List ConsumerNode) (f : ConsumerNode) → AllOwned provider_nodes consumer_nodes → AllOwned provider_nodes (consumer_nodes ++ f ∷ [])
owned_consumer_node provider_nodes consumer_nodes f owned name r e at s found =
    let was = owned name r e at s found in
    record { place = was.place; owner = was.owner; there = find-more (is_consumer_node was.place) consumer_nodes f was.owner was.there; source = was.source; search = was.search }

-- ---- a provider is changed, and opens none

-- each open search has its consumer after a change that opens none
pub owned_changed : (provider_nodes next : List ProviderNode) (consumer_nodes : List ConsumerNode) (name : List ℕ) (provider_node now : ProviderNode) → provider_nodes_by provider_nodes name ≡ Some provider_node → IsChanged (provider_nodes_by provider_nodes) (provider_nodes_by next) name now
    → OpensNone provider_node.provider now.provider → AllOwned provider_nodes consumer_nodes → AllOwned next consumer_nodes
owned_changed provider_nodes next consumer_nodes name provider_node now e changed opens owned other r e' at s found = by (found_after (provider_nodes_by provider_nodes) (provider_nodes_by next) name now changed other r e')
  where
    by : ((other ≡ name) × (now ≡ r)) ⊎ ((bytes_eq other name ≡ false) × (provider_nodes_by provider_nodes other ≡ Some r)) → HasOwner consumer_nodes other at
    by (inl here) =
        let was = opens at s (ap (λ (x : ProviderNode). search_at x.provider.searches at) here.1 ∙ found) in
        subst (λ n. HasOwner consumer_nodes n at) (sym here.0) (owned name provider_node e at was.0 was.1)
    by (inr was) = owned other r was.1 at s found

-- ---- a consumer and its provider are changed

module _ (provider_nodes next : List ProviderNode) (consumer_nodes after : List ConsumerNode) (name : List ℕ) (f : ConsumerNode) (provider_node : ProviderNode) (lineage : Lineage) (pair : Agreement) (e : consumer_nodes_by consumer_nodes name ≡ Some f) (r : provider_nodes_by provider_nodes f.source ≡ Some provider_node)
    (changed : IsChanged (provider_nodes_by provider_nodes) (provider_nodes_by next) f.source (record provider_node { provider = pair.provider })) (changed' : IsChanged (consumer_nodes_by consumer_nodes) (consumer_nodes_by after) name pair.consumer_node)
    (source : pair.consumer_node.source ≡ f.source) (owns : OwnsNew (agreement_of provider_node.provider f lineage) pair) (owned : AllOwned provider_nodes consumer_nodes) where
  -- the owner of a search that is not the consumer's is there still
  still_there : (n : List ℕ) (at : ℕ) → (was : HasOwner consumer_nodes n at) → ((f.search ≡ Some at) → (f.source ≡ n) → ⊥) → HasOwner after n at
  still_there n at was other = by (bytes_eq was.place name) refl
    where
      by : (same : Bool) → bytes_eq was.place name ≡ same → HasOwner after n at
      by true is =
          let here : Some f ≡ Some was.owner = sym e ∙ ap (consumer_nodes_by consumer_nodes) (sym (same_bytes was.place name is)) ∙ was.there in
          let one : f ≡ was.owner = cc in
          absurd (other (ap (λ (g : ConsumerNode). g.search) one ∙ was.search) (ap (λ (g : ConsumerNode). g.source) one ∙ was.source))
      by false is = record { place = was.place; owner = was.owner; there = changed'.others was.place is ∙ was.there; source = was.source; search = was.search }

  -- each open search has its consumer after an exchange
  pub owned_done : AllOwned next after
  owned_done other x e' at s found = by (found_after (provider_nodes_by provider_nodes) (provider_nodes_by next) f.source (record provider_node { provider = pair.provider }) changed other x e')
    where
      by_owns : (pair.consumer_node.search ≡ Some at) ⊎ ((was : SearchState) × (search_at provider_node.provider.searches at ≡ Some was) × (f.search ≡ Some at → ⊥)) → HasOwner after f.source at
      by_owns (inl mine) = record { place = name; owner = pair.consumer_node; there = changed'.here; source = source; search = mine }
      by_owns (inr was) = still_there f.source at (owned f.source provider_node r at was.0 was.1) (λ mine same. was.2 mine)

      by : ((other ≡ f.source) × (record provider_node { provider = pair.provider } ≡ x)) ⊎ ((bytes_eq other f.source ≡ false) × (provider_nodes_by provider_nodes other ≡ Some x)) → HasOwner after other at
      by (inl here) =
          subst (λ n. HasOwner after n at) (sym here.0) (by_owns (owns at s (ap (λ (y : ProviderNode). search_at y.provider.searches at) here.1 ∙ found)))
      by (inr was) = still_there other at (owned other x was.1 at s found) (λ mine same. true≢false (sym (itself other) ∙ ap (bytes_eq other) (sym same) ∙ was.0))

-- ---- a consumer that has no search gets another provider

-- each open search has its consumer after a repoint of one without a search
pub owned_pointed : (provider_nodes : List ProviderNode) (consumer_nodes after : List ConsumerNode) (name : List ℕ) (f now : ConsumerNode) → consumer_nodes_by consumer_nodes name ≡ Some f → IsChanged (consumer_nodes_by consumer_nodes) (consumer_nodes_by after) name now → f.search ≡ None
    → AllOwned provider_nodes consumer_nodes → AllOwned provider_nodes after
owned_pointed provider_nodes consumer_nodes after name f now e changed idle owned n r e' at s found = by (owned n r e' at s found)
  where
    by : HasOwner consumer_nodes n at → HasOwner after n at
    by was = same (bytes_eq was.place name) refl
      where
        same : (hit : Bool) → bytes_eq was.place name ≡ hit → HasOwner after n at
        same true is =
            let here : Some f ≡ Some was.owner = sym e ∙ ap (consumer_nodes_by consumer_nodes) (sym (same_bytes was.place name is)) ∙ was.there in
            let one : f ≡ was.owner = cc in
            let bad : None ≡ Some at = sym idle ∙ ap (λ (g : ConsumerNode). g.search) one ∙ was.search in
            let never : ⊥ = cc in
            absurd never
        same false is = record { place = was.place; owner = was.owner; there = changed.others was.place is ∙ was.there; source = was.source; search = was.search }

-- ---- the searches of all consumers

abbrev numbers_with : Option ℕ → List ℕ → List ℕ
numbers_with None numbers = numbers
numbers_with (Some at) numbers = at ∷ numbers

abbrev numbers_of : List ConsumerNode → List ℕ
numbers_of [] = []
numbers_of (f ∷ consumer_nodes) = numbers_with f.search (numbers_of consumer_nodes)

numbers_few : (consumer_nodes : List ConsumerNode) → length (numbers_of consumer_nodes) ≤ length consumer_nodes
numbers_few [] = omega arith
numbers_few (f ∷ consumer_nodes) = by f.search (numbers_few consumer_nodes)
  where
    by : (own : Option ℕ) → length (numbers_of consumer_nodes) ≤ length consumer_nodes → length (numbers_with own (numbers_of consumer_nodes)) ≤ length (f ∷ consumer_nodes)
    by None few = omega (arith, few)
    by (Some at) few = omega (arith, few)

number_there : (test : ConsumerNode → Bool) (consumer_nodes : List ConsumerNode) (g : ConsumerNode) (at : ℕ) → find test consumer_nodes ≡ Some g → g.search ≡ Some at → among at (numbers_of consumer_nodes) ≡ true
number_there test [] g at e mine = let never : ⊥ = cc in absurd never
number_there test (f ∷ consumer_nodes) g at e mine = by (number_there test consumer_nodes g at) (test f) e
  where
    here : (own : Option ℕ) → own ≡ Some at → among at (numbers_with own (numbers_of consumer_nodes)) ≡ true
    here None is = let never : ⊥ = cc in absurd never
    here (Some k) is = let same : at ≡ k = cc in ap (λ b. b || among at (numbers_of consumer_nodes)) (eq-eqb at k same)

    beyond : (own : Option ℕ) → among at (numbers_of consumer_nodes) ≡ true → among at (numbers_with own (numbers_of consumer_nodes)) ≡ true
    beyond None there = there
    beyond (Some k) there = or_right (nat_eq at k) (among at (numbers_of consumer_nodes)) there

    by : (find test consumer_nodes ≡ Some g → g.search ≡ Some at → among at (numbers_of consumer_nodes) ≡ true) → (hit : Bool) → cond hit (Some f) (find test consumer_nodes) ≡ Some g → among at (numbers_of (f ∷ consumer_nodes)) ≡ true
    by later true is = let same : f ≡ g = cc in here f.search (ap (λ (x : ConsumerNode). x.search) same ∙ mine)
    by later false is = beyond f.search (later is mine)

-- so a provider has room for one more, where the nodes are few
pub room_of : (provider_nodes : List ProviderNode) (consumer_nodes : List ConsumerNode) (name : List ℕ) (provider_node : ProviderNode) (f : ConsumerNode) → provider_nodes_by provider_nodes name ≡ Some provider_node → length consumer_nodes ≤ 16 → AllOwned provider_nodes consumer_nodes
    → HasRoom provider_node.provider f
room_of provider_nodes consumer_nodes name provider_node f e few owned = record {
  others = numbers_of consumer_nodes;
  few = omega (arith, few, numbers_few consumer_nodes);
  each = λ at s found. let own = owned name provider_node e at s found in inr (number_there (is_consumer_node own.place) consumer_nodes own.owner at own.there own.search);
}
