-- What holds of the nodes by the orders, after one more.
use Rattle.std.proofs.Common.{◌≡◌, ℕ, Bool, true, false, Option, Some, None, List, [], ◌∷◌, ◌++◌, refl, ap, sym, subst, ◌∙◌, inl, inr}
use Rattle.std.specs.Str.{bytes_eq}
use Rattle.dn_names.specs.Names.{TypeAndValue}
use Rattle.entry_tree.specs.declared.op.Write.{Write}
use Rattle.entry_tree.proofs.NameKeys.{same_bytes}
use Rattle.sync_provider.specs.declared.provider.Kind.{Kind}
use Rattle.sync_provider.specs.declared.provider.Kind.TheVariants.{Root, Replica}
use Rattle.cascade_nodes.specs.declared.node.ProviderNode.{ProviderNode}
use Rattle.cascade_nodes.specs.declared.node.ConsumerNode.{ConsumerNode}
use Rattle.cascade_laws.specs.Headline.{time_after, time_from, accepted_from, is_declaration, Following, following, followed, follows_now}
use Rattle.cascade_script.specs.Orders.{Order}
use Rattle.cascade_script.specs.Orders.{Order as asks}
use Rattle.cascade_world.specs.World.{WorldState}
use Rattle.cascade_laws.proofs.Accepted.{time_from-push, accepted_from-push, Untouched, with_accepted-untouched, declared-push, follows-push}
use Rattle.cascade_world.proofs.Finding.{IsChanged, found_after, provider_nodes_by, consumer_nodes_by}
use Rattle.cascade_laws.proofs.Growing.{count_same}
use Rattle.cascade_world.proofs.SameNames.{other_way}
use Rattle.cascade_laws.proofs.Tracking.{IsRoot, IsReplica, IsOfKind, IsProviderNode, AreProviderNodes, AreConsumers, AreStrangers, ByOrders}

-- ---- one provider node

-- the accepted writes stay where the order is no write to them
accepted_kept : (number : ℕ) (suffix : List (List TypeAndValue)) (name : List ℕ) (time : ℕ) (later : List Order) (order : Order) → Untouched order name
    → accepted_from number suffix name time [] (later ++ order ∷ []) ≡ accepted_from number suffix name time [] later
accepted_kept number suffix name time later order quiet =
    accepted_from-push number suffix name time [] later order
    ∙ with_accepted-untouched number suffix name (time_from time later) (accepted_from number suffix name time [] later) order quiet

root_kept : (before : List Order) (order : Order) (name : List ℕ) (number : ℕ) (suffix : List (List TypeAndValue)) (writes : List Write) → Untouched order name → IsRoot before name number suffix writes → IsRoot (before ++ order ∷ []) name number suffix writes
root_kept before order name number suffix writes quiet is = record {
  later = is.later ++ order ∷ [];
  declared = declared-push before number (asks.Provider name suffix) is.later order is.declared;
  accepted = is.accepted ∙ sym (accepted_kept number suffix name (time_from 0 is.declared.earlier) is.later order quiet);
}

replica_kept : (before : List Order) (order : Order) (name : List ℕ) (number : ℕ) → IsReplica before name number → IsReplica (before ++ order ∷ []) name number
replica_kept before order name number is = record {
  source = is.source;
  search = is.search;
  reload = is.reload;
  later = is.later ++ order ∷ [];
  declared = declared-push before number (asks.Replica name is.source is.search is.reload) is.later order is.declared;
}

-- a provider that an order does not touch is as the orders before have it
pub provider_node_kept : (before : List Order) (order : Order) (r : ProviderNode) → Untouched order r.name → IsProviderNode before r → IsProviderNode (before ++ order ∷ []) r
provider_node_kept before order r quiet is = by r.provider.kind is
  where
    by : (kind : Kind) → IsOfKind before r.name r.provider.directory kind → IsOfKind (before ++ order ∷ []) r.name r.provider.directory kind
    by Root h = root_kept before order r.name r.provider.directory.history r.provider.directory.suffix r.provider.directory.writes quiet h
    by Replica h = replica_kept before order r.name r.provider.directory.history h

-- ---- provider nodes that stay

-- the same node, a root with the same writes
pub record IsStill (r s : ProviderNode) : Type 0 where
  pub name : s.name ≡ r.name
  pub kind : s.provider.kind ≡ r.provider.kind
  pub history : s.provider.directory.history ≡ r.provider.directory.history
  pub suffix : s.provider.directory.suffix ≡ r.provider.directory.suffix
  pub writes : r.provider.kind ≡ Root → s.provider.directory.writes ≡ r.provider.directory.writes

still_itself : (r : ProviderNode) → IsStill r r
still_itself r = record { name = refl; kind = refl; history = refl; suffix = refl; writes = λ root. refl }

still_through : (a b c : ProviderNode) → IsStill a b → IsStill b c → IsStill a c
still_through a b c first second = record {
  name = second.name ∙ first.name;
  kind = second.kind ∙ first.kind;
  history = second.history ∙ first.history;
  suffix = second.suffix ∙ first.suffix;
  writes = λ root. second.writes (first.kind ∙ root) ∙ first.writes root;
}

still_provider_node : (before : List Order) (r s : ProviderNode) → IsStill r s → IsProviderNode before r → IsProviderNode before s
still_provider_node before r s same is = subst (IsOfKind before s.name s.provider.directory) (sym same.kind) (by r.provider.kind refl is)
  where
    by : (kind : Kind) → r.provider.kind ≡ kind → IsOfKind before r.name r.provider.directory kind → IsOfKind before s.name s.provider.directory kind
    by Root e h =
        subst (λ n. IsRoot before n s.provider.directory.history s.provider.directory.suffix s.provider.directory.writes) (sym same.name)
        (subst (λ n. IsRoot before r.name n s.provider.directory.suffix s.provider.directory.writes) (sym same.history)
        (subst (λ n. IsRoot before r.name r.provider.directory.history n s.provider.directory.writes) (sym same.suffix)
        (subst (λ n. IsRoot before r.name r.provider.directory.history r.provider.directory.suffix n) (sym (same.writes e)) h)))
    by Replica e h = subst (λ n. IsReplica before s.name n) (sym same.history) (subst (λ n. IsReplica before n r.provider.directory.history) (sym same.name) h)

pub record HasStood (old : List ℕ → Option ProviderNode) (name : List ℕ) (s : ProviderNode) : Type 0 where
  pub was : ProviderNode
  pub there : old name ≡ Some was
  pub still : IsStill was s

-- each was there before
abbrev pub AllStill : (old new : List ℕ → Option ProviderNode) → Type 0
AllStill old new = (name : List ℕ) (s : ProviderNode) → new name ≡ Some s → HasStood old name s

-- providers stand as they stand
pub all_still : (old : List ℕ → Option ProviderNode) → AllStill old old
all_still old name s e = record { was = s; there = e; still = still_itself s }

-- what stands still twice stands still
pub all_still_through : (a b c : List ℕ → Option ProviderNode) → AllStill a b → AllStill b c → AllStill a c
all_still_through a b c first second name s e =
    let two = second name s e in
    let one = first name two.was two.there in
    record { was = one.was; there = one.there; still = still_through one.was two.was s one.still two.still }

-- where one provider keeps its writes and the others stay, all stand still
pub still_changed : (old new : List ℕ → Option ProviderNode) (name : List ℕ) (r s : ProviderNode) → old name ≡ Some r → IsChanged old new name s → IsStill r s → AllStill old new
still_changed old new name r s e changed same other x e' =
    elim (found_after old new name s changed other x e') [
      | inl here ↦ record { was = r; there = ap old here.0 ∙ e; still = subst (IsStill r) here.1 same }
      | inr there ↦ record { was = x; there = there.1; still = still_itself x }
    ]

-- ---- all of them

-- an order that sets no clock, declares nothing and writes nothing
pub record IsQuiet (order : Order) : Type 0 where
  pub still : (time : ℕ) → time_after time order ≡ time
  pub undeclared : is_declaration order ≡ false
  pub untouched : (name : List ℕ) → Untouched order name

-- the time after an order that sets no clock
pub time_still : (before : List Order) (order : Order) (time : ℕ) → ((t : ℕ) → time_after t order ≡ t) → time ≡ time_from 0 before → time ≡ time_from 0 (before ++ order ∷ [])
time_still before order time still is = is ∙ sym (time_from-push 0 before order ∙ still (time_from 0 before))

-- providers that stand still are as the orders have them after one that touches none
pub provider_nodes_still : (before : List Order) (order : Order) (provider_nodes next : List ProviderNode) → ((name : List ℕ) → Untouched order name) → AllStill (provider_nodes_by provider_nodes) (provider_nodes_by next) → AreProviderNodes before provider_nodes
    → AreProviderNodes (before ++ order ∷ []) next
provider_nodes_still before order provider_nodes next quiet still is name s e =
    let was = still name s e in
    provider_node_kept before order s (quiet s.name) (still_provider_node before was.was s was.still (is name was.was was.there))

-- what consumers follow stays
pub consumers_still : (before : List Order) (order : Order) (consumer_nodes : List ConsumerNode) → ((name : List ℕ) (f : ConsumerNode) → consumer_nodes_by consumer_nodes name ≡ Some f → followed name (follows_now before name) order ≡ follows_now before name)
    → AreConsumers before consumer_nodes → AreConsumers (before ++ order ∷ []) consumer_nodes
consumers_still before order consumer_nodes still is name f e = follows-push before order name ∙ still name f e ∙ is name f e

-- names that no consumer has follow nothing after an order that gives them nothing to follow
pub strangers_still : (before : List Order) (order : Order) (consumer_nodes : List ConsumerNode) → ((name : List ℕ) → consumer_nodes_by consumer_nodes name ≡ None → followed name None order ≡ None) → AreStrangers before consumer_nodes → AreStrangers (before ++ order ∷ []) consumer_nodes
strangers_still before order consumer_nodes still is name e = follows-push before order name ∙ ap (λ now. followed name now order) (is name e) ∙ still name e

-- an order after which all follow what they did
pub orders_quiet : (before : List Order) (order : Order) (state new : WorldState) → IsQuiet order → ((name : List ℕ) (now : Option Following) → followed name now order ≡ now) → new.clock ≡ state.clock → new.nodes ≡ state.nodes → new.consumer_nodes ≡ state.consumer_nodes
    → AllStill (provider_nodes_by state.provider_nodes) (provider_nodes_by new.provider_nodes) → ByOrders before state → ByOrders (before ++ order ∷ []) new
orders_quiet before order state new quiet same clock nodes consumer_nodes still is = record {
  time = clock ∙ time_still before order state.clock quiet.still is.time;
  count = nodes ∙ is.count ∙ sym (count_same is_declaration before order quiet.undeclared);
  provider_nodes = provider_nodes_still before order state.provider_nodes new.provider_nodes quiet.untouched still is.provider_nodes;
  consumers = subst (AreConsumers (before ++ order ∷ [])) (sym consumer_nodes) (consumers_still before order state.consumer_nodes (λ n f e. same n (follows_now before n)) is.consumers);
  strangers = subst (AreStrangers (before ++ order ∷ [])) (sym consumer_nodes) (strangers_still before order state.consumer_nodes (λ n e. same n None) is.strangers);
}

-- an order that reports what one consumer follows then
pub record AsksOf (order : Order) (name : List ℕ) : Type 0 where
  pub others : (other : List ℕ) (now : Option Following) → bytes_eq name other ≡ false → followed other now order ≡ now

-- after an order for one consumer each follows what the orders say
pub consumers_asked : (before : List Order) (order : Order) (consumer_nodes next : List ConsumerNode) (name : List ℕ) (g : ConsumerNode) → AsksOf order name
    → followed name (follows_now before name) order ≡ Some (following g.source g.consumer.spec g.consumer.reload) → IsChanged (consumer_nodes_by consumer_nodes) (consumer_nodes_by next) name g → AreConsumers before consumer_nodes
    → AreConsumers (before ++ order ∷ []) next
consumers_asked before order consumer_nodes next name g asks' own changed is n h found =
    elim (found_after (consumer_nodes_by consumer_nodes) (consumer_nodes_by next) name g changed n h found) [
      | inl here ↦
          subst (λ x. follows_now (before ++ order ∷ []) x ≡ Some (following h.source h.consumer.spec h.consumer.reload)) (sym here.0)
          (follows-push before order name ∙ own ∙ ap (λ (x : ConsumerNode). Some (following x.source x.consumer.spec x.consumer.reload)) here.1)
      | inr there ↦ follows-push before order n ∙ asks'.others n (follows_now before n) (other_way n name there.0) ∙ is n h there.1
    ]

-- and a name that no consumer has follows nothing
pub strangers_asked : (before : List Order) (order : Order) (consumer_nodes next : List ConsumerNode) (name : List ℕ) (g : ConsumerNode) → AsksOf order name → IsChanged (consumer_nodes_by consumer_nodes) (consumer_nodes_by next) name g → AreStrangers before consumer_nodes
    → AreStrangers (before ++ order ∷ []) next
strangers_asked before order consumer_nodes next name g asks' changed is n none = by (bytes_eq n name) refl
  where
    by : (b : Bool) → bytes_eq n name ≡ b → follows_now (before ++ order ∷ []) n ≡ None
    by true hit = let bad : None ≡ Some g = sym none ∙ ap (consumer_nodes_by next) (same_bytes n name hit) ∙ changed.here in let never : ⊥ = cc in absurd never
    by false miss = follows-push before order n ∙ asks'.others n (follows_now before n) (other_way n name miss) ∙ is n (sym (changed.others n miss) ∙ none)

-- so what the orders say of all nodes is so after it
pub orders_asked : (before : List Order) (order : Order) (state new : WorldState) (name : List ℕ) (f g : ConsumerNode) → IsQuiet order → AsksOf order name
    → followed name (Some (following f.source f.consumer.spec f.consumer.reload)) order ≡ Some (following g.source g.consumer.spec g.consumer.reload) → new.clock ≡ state.clock → new.nodes ≡ state.nodes
    → consumer_nodes_by state.consumer_nodes name ≡ Some f → IsChanged (consumer_nodes_by state.consumer_nodes) (consumer_nodes_by new.consumer_nodes) name g → AllStill (provider_nodes_by state.provider_nodes) (provider_nodes_by new.provider_nodes) → ByOrders before state
    → ByOrders (before ++ order ∷ []) new
orders_asked before order state new name f g quiet asks' own clock nodes e changed still is = record {
  time = clock ∙ time_still before order state.clock quiet.still is.time;
  count = nodes ∙ is.count ∙ sym (count_same is_declaration before order quiet.undeclared);
  provider_nodes = provider_nodes_still before order state.provider_nodes new.provider_nodes quiet.untouched still is.provider_nodes;
  consumers = consumers_asked before order state.consumer_nodes new.consumer_nodes name g asks' (ap (λ now. followed name now order) (is.consumers name f e) ∙ own) changed is.consumers;
  strangers = strangers_asked before order state.consumer_nodes new.consumer_nodes name g asks' changed is.strangers;
}

-- one node more
pub provider_nodes_declared : (before : List Order) (order : Order) (provider_nodes next : List ProviderNode) (name : List ℕ) (s : ProviderNode) → ((other : List ℕ) → Untouched order other) → IsChanged (provider_nodes_by provider_nodes) (provider_nodes_by next) name s
    → IsProviderNode (before ++ order ∷ []) s → AreProviderNodes before provider_nodes → AreProviderNodes (before ++ order ∷ []) next
provider_nodes_declared before order provider_nodes next name s quiet changed now is n x found =
    elim (found_after (provider_nodes_by provider_nodes) (provider_nodes_by next) name s changed n x found) [
      | inl here ↦ subst (IsProviderNode (before ++ order ∷ [])) here.1 now
      | inr there ↦ provider_node_kept before order x (quiet x.name) (is n x there.1)
    ]
