-- The names of an order are looked up here: what holds of each refusal, and of what is done where its
-- nodes are found, holds of the order.
use Rattle.std.proofs.Common.{◌≡◌, ◌<◌, ℕ, Bool, true, false, cond, Option, Some, None, List, [], refl, sym, subst}
use Rattle.std.proofs.lemmas.Bool.{leb-false, not-false}
use Rattle.std.specs.Prelude.{Ok, Err, not, nat_le}
use Rattle.dn_names.specs.Names.{TypeAndValue}
use Rattle.entry_tree.specs.Selection.{Search}
use Rattle.cascade_script.specs.declared.fault.Cause.{Cause}
use Rattle.cascade_script.specs.declared.fault.Cause.TheVariants.{NameTaken, UnknownNode, Circle, OutsideSuffix, LimitReached}
use Rattle.cascade_nodes.specs.declared.node.ProviderNode.{ProviderNode}
use Rattle.cascade_nodes.specs.declared.node.ConsumerNode.{ConsumerNode}
use Rattle.cascade_exchange.specs.Cookies.{most_nodes}
use Rattle.cascade_exchange.specs.Exchange.{Agreement, ExchangeOutcome, agreement_of, idle, respecs}
use Rattle.cascade_world.proofs.Finding.{consumer_node_name}
use Rattle.cascade_world.specs.World.{WorldState, StepOutcome, has_node, provider_node_named, consumer_node_named, where_room, with_root, declare_root, is_offered, follow, declare_consumer_node, with_outcome, lineage_of, between, exchange_of, exchange, is_fed, pointed_after, repoint_to, repoint_of, repoint, respec_at, respec_of, respec}

-- of a lookup, and what is done with what it finds
pub if_found : {X : Type 0} (Holds : StepOutcome → Type 0) (done : Option X → StepOutcome) (found : Option X) → Holds (done None) → ((x : X) → found ≡ Some x → Holds (done (Some x))) → Holds (done found)
if_found Holds done None none holds = none
if_found Holds done (Some x) none holds = holds x refl

module _ (Holds : StepOutcome → Type 0) (refused : (cause : Cause) → Holds (Err cause)) where
  if_passed : (test : Bool) (cause : Cause) (done : StepOutcome) → (test ≡ false → Holds done) → Holds (cond test (Err cause) done)
  if_passed true cause done holds = refused cause
  if_passed false cause done holds = holds refl

  if_offered : (search : Search) (r : ProviderNode) (done : StepOutcome) → (is_offered search r ≡ true → Holds done) → Holds (cond (not (is_offered search r)) (Err OutsideSuffix) done)
  if_offered search r done holds = if_passed (not (is_offered search r)) OutsideSuffix done (λ inside. holds (not-false (is_offered search r) inside))

  if_room : (state after : WorldState) → (state.nodes < most_nodes → Holds (Ok (after, []))) → Holds (where_room state after)
  if_room state after holds = if_passed (nat_le most_nodes state.nodes) (LimitReached most_nodes) (Ok (after, [])) (λ room. holds (leb-false most_nodes state.nodes room))

  -- of the declaration of a root
  pub root_declared : (state : WorldState) (name : List ℕ) (suffix : List (List TypeAndValue)) → (has_node name state ≡ false → state.nodes < most_nodes → Holds (Ok (with_root state name suffix, []))) → Holds (declare_root state name suffix)
  root_declared state name suffix holds =
      if_passed (has_node name state) NameTaken (where_room state (with_root state name suffix)) (λ new. if_room state (with_root state name suffix) (holds new))

  -- of that of a consumer or a replica
  pub consumer_declared : (state : WorldState) (name source : List ℕ) (search : Search) (after : WorldState)
      → (has_node name state ≡ false → (r : ProviderNode) → provider_node_named source state ≡ Some r → is_offered search r ≡ true → state.nodes < most_nodes → Holds (Ok (after, [])))
      → Holds (declare_consumer_node state name source search after)
  consumer_declared state name source search after holds =
      if_passed (has_node name state) NameTaken (follow state search after (provider_node_named source state)) (λ new.
      if_found Holds (follow state search after) (provider_node_named source state) (refused UnknownNode) (λ r there. if_offered search r (where_room state after) (λ inside. if_room state after (holds new r there inside))))

-- of a consumer that is there, under its own name
module _ (Holds : List ℕ → StepOutcome → Type 0) (refused : (name : List ℕ) (cause : Cause) → Holds name (Err cause)) where
  named : (state : WorldState) (name : List ℕ) (f : ConsumerNode) (done : List ℕ → StepOutcome) → consumer_node_named name state ≡ Some f → (consumer_node_named f.name state ≡ Some f → Holds f.name (done f.name)) → Holds name (done name)
  named state name f done e holds =
      let here : name ≡ f.name = consumer_node_name state.consumer_nodes name f e in
      subst (λ n. Holds n (done n)) (sym here) (holds (subst (λ n. consumer_node_named n state ≡ Some f) here e))

  -- of what goes on between it and its provider
  pub exchanged : (state : WorldState) (name : List ℕ) (part : Agreement → ExchangeOutcome)
      → ((f : ConsumerNode) (r : ProviderNode) → consumer_node_named f.name state ≡ Some f → provider_node_named f.source state ≡ Some r → Holds f.name (with_outcome state (part (agreement_of r.provider f (lineage_of state r)))))
      → Holds name (exchange state name part)
  exchanged state name part holds =
      if_found (Holds name) (exchange_of state part) (consumer_node_named name state) (refused name UnknownNode) (λ f e.
      if_found (Holds name) (between state f part) (provider_node_named f.source state) (refused name UnknownNode) (λ r there.
      named state name f (λ n. with_outcome state (part (agreement_of r.provider f (lineage_of state r)))) e (λ e'. holds f r e' there)))

  -- of one that gets another provider
  pub repointed : (state : WorldState) (name source : List ℕ)
      → ((f : ConsumerNode) (s : ProviderNode) → consumer_node_named f.name state ≡ Some f → provider_node_named source state ≡ Some s → is_fed state f.name source ≡ false → is_offered f.consumer.spec s ≡ true
      → Holds f.name (pointed_after f.name source (exchange state f.name idle)))
      → Holds name (repoint state name source)
  repointed state name source holds =
      let done = pointed_after name source (exchange state name idle) in
      if_found (Holds name) (repoint_of state name source) (consumer_node_named name state) (refused name UnknownNode) (λ f e.
      if_found (Holds name) (repoint_to state name source f) (provider_node_named source state) (refused name UnknownNode) (λ s there.
      if_passed (Holds name) (refused name) (is_fed state name source) Circle (cond (not (is_offered f.consumer.spec s)) (Err OutsideSuffix) done) (λ free.
      if_offered (Holds name) (refused name) f.consumer.spec s done (λ inside.
      named state name f (λ n. pointed_after n source (exchange state n idle)) e (λ e'. holds f s e' there (subst (λ n. is_fed state n source ≡ false) (consumer_node_name state.consumer_nodes name f e) free) inside)))))

  -- and of one that wants something else
  pub respecced : (state : WorldState) (name : List ℕ) (search : Search)
      → ((f : ConsumerNode) (r : ProviderNode) → consumer_node_named f.name state ≡ Some f → provider_node_named f.source state ≡ Some r → is_offered search r ≡ true → Holds f.name (exchange state f.name (respecs search)))
      → Holds name (respec state name search)
  respecced state name search holds =
      if_found (Holds name) (respec_of state name search) (consumer_node_named name state) (refused name UnknownNode) (λ f e.
      if_found (Holds name) (respec_at state name search) (provider_node_named f.source state) (refused name UnknownNode) (λ r there.
      if_offered (Holds name) (refused name) search r (exchange state name (respecs search)) (λ inside. named state name f (λ n. exchange state n (respecs search)) e (λ e'. holds f r e' there inside))))
