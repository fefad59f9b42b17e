-- What holds of the nodes after a declaration.
use Rattle.std.proofs.Common.{◌≡◌, ◌⊎◌, ◌+◌, ◌<◌, ◌≤◌, ℕ, Bool, true, false, Option, Some, None, List, [], ◌∷◌, ◌++◌, length, refl, ap, sym, subst, ◌∙◌, inl, inr, arith, append-nil, length-append}
use Rattle.std.specs.Prelude.{count_by, is_some, map, option_map, slice_get}
use Rattle.std.specs.Str.{bytes_eq}
use Rattle.dn_names.specs.Names.{TypeAndValue}
use Rattle.directory_writes.proofs.Writes.{entries_after-none}
use Rattle.entry_tree.specs.Selection.{Search}
use Rattle.entry_tree.proofs.NameKeys.{same_bytes}
use Rattle.sync_provider.specs.declared.provider.Kind.{Kind}
use Rattle.sync_provider.specs.declared.provider.Kind.TheVariants.{Root, Replica}
use Rattle.cascade_nodes.specs.declared.node.ProviderNode.{ProviderNode}
use Rattle.cascade_nodes.specs.declared.node.ConsumerNode.{ConsumerNode}
use Rattle.cascade_world.specs.Cookies.{most_nodes}
use Rattle.cascade_laws.specs.Headline.{Known, nothing_known, known_of, is_declaration, IsDeclared, stored_of}
use Rattle.cascade_script.specs.Orders.{Order}
use Rattle.cascade_script.specs.Orders.{Order as asks}
use Rattle.cascade_world.specs.ReportLines.{ReportLine}
use Rattle.cascade_world.specs.World.{WorldState, is_provider_node, provider_node_named, new_provider_node, with_root, declare_root, new_consumer_node, with_consumer, with_replica, is_offered, declare_consumer_node}
use Rattle.cascade_laws.proofs.Exchanges.{After}
use Rattle.cascade_laws.proofs.Feeding.{IsFed, Promises, RestIsFed, FreshIsSource}
use Rattle.cascade_world.proofs.Finding.{IsChanged, found_after, provider_nodes_by, consumer_nodes_by, provider_node_pushed, consumer_node_pushed, IsNew, is_new}
use Rattle.cascade_world.proofs.Found as lookup
use Rattle.cascade_laws.proofs.Growing.{count_more, AllBecome, grows_itself, sources_changed, rooted_grown, committers_changed, committers_but}
use Rattle.cascade_laws.proofs.Ordered.{AsksOf, time_still, consumers_still, strangers_still, consumers_asked, strangers_asked, provider_nodes_declared, provider_node_kept}
use Rattle.cascade_laws.proofs.Saying.{IsLeft, left_for_new}
use Rattle.cascade_world.proofs.SameNames.{itself}
use Rattle.cascade_world.proofs.Climbing.{Climbs, Avoids, AllClimb, all_climb_rerouted, found_above}
use Rattle.cascade_world.proofs.Owning.{owned_provider_node, owned_consumer_node}
use Rattle.cascade_world.proofs.Traced.{AreReported}
use Rattle.cascade_world.proofs.Lists.{find-more}
use Rattle.cascade_laws.proofs.Tracking.{noted, HasCommitted, AreSources, AreNumbered, IsConsumerNode, AreConsumerNodes, AllApart, IsManned, AreManned, Feeds, Tracks}

-- ---- a new name

-- another node has another name
other_provider_node : (state : WorldState) (name n : List ℕ) (s : ProviderNode) → IsNew state name → provider_nodes_by state.provider_nodes n ≡ Some s → bytes_eq n name ≡ false
other_provider_node state name n s new e = by (bytes_eq n name) refl
  where
    by : (b : Bool) → bytes_eq n name ≡ b → bytes_eq n name ≡ false
    by true hit = let bad : None ≡ Some s = sym new.provider_node ∙ ap (provider_nodes_by state.provider_nodes) (sym (same_bytes n name hit)) ∙ e in let never : ⊥ = cc in absurd never
    by false miss = miss

-- ---- the number of a node

declared_now : (before : List Order) (number : ℕ) (order : Order) → number ≡ count_by is_declaration before → IsDeclared (before ++ order ∷ []) (number + 1) order []
declared_now before number order count = record { earlier = before; whole = refl; numbered = ap (λ n. n + 1) count }

-- one more node is counted
counted_now : (before : List Order) (order : Order) (number : ℕ) → is_declaration order ≡ true → number ≡ count_by is_declaration before → number + 1 ≡ count_by is_declaration (before ++ order ∷ [])
counted_now before order number declares count = ap (λ n. n + 1) count ∙ sym (count_more is_declaration before order declares)

nothing_said : (before : List Order) (said : List ReportLine) (state : WorldState) → Tracks before said state → Tracks before (said ++ []) state
nothing_said before said state is = subst (λ s. Tracks before s state) (sym (append-nil said)) is

-- ---- one provider more

module _ (fresh_is : FreshIsSource) (state : WorldState) (kind : Kind) (name : List ℕ) (suffix : List (List TypeAndValue)) (new : IsNew state name) (room : state.nodes < most_nodes) where
  abbrev pub added : ProviderNode
  added = new_provider_node state kind name suffix

  abbrev pub more : List ProviderNode
  more = state.provider_nodes ++ added ∷ []

  -- the new provider stands under its name, and all others as before
  pub pushed : IsChanged (provider_nodes_by state.provider_nodes) (provider_nodes_by more) name added
  pushed = provider_node_pushed state.provider_nodes added new.provider_node

  -- with it each provider is a source
  pub sources_pushed : AreSources state.provider_nodes → AreSources more
  sources_pushed is =
      let first : 1 ≤ state.nodes + 1 = omega arith in
      let small : state.nodes + 1 ≤ 16 = omega (arith, room) in
      sources_changed state.provider_nodes more name added pushed (fresh_is (state.nodes + 1) suffix kind first small) is

  -- and each has a number of its own
  pub numbered_pushed : AreNumbered state.nodes state.provider_nodes → AreNumbered (state.nodes + 1) more
  numbered_pushed is = record {
    within =
        λ n s e. elim (found_after (provider_nodes_by state.provider_nodes) (provider_nodes_by more) name added pushed n s e) [
          | inl here ↦ let P : ProviderNode → Type 0 = λ x. x.provider.directory.history ≤ state.nodes + 1 in subst P here.1 (omega arith)
          | inr was ↦ let low = is.within n s was.1 in omega (arith, low)
        ];
    apart = λ n m r s e e' same. by n m r s same (found_after (provider_nodes_by state.provider_nodes) (provider_nodes_by more) name added pushed n r e) (found_after (provider_nodes_by state.provider_nodes) (provider_nodes_by more) name added pushed m s e');
  }
    where
      below : (n : List ℕ) (s t : ProviderNode) → provider_nodes_by state.provider_nodes n ≡ Some s → added ≡ t → s.provider.directory.history ≡ t.provider.directory.history → ⊥
      below n s t e at same =
          let low = is.within n s e in
          let number : t.provider.directory.history ≡ state.nodes + 1 = ap (λ (x : ProviderNode). x.provider.directory.history) (sym at) in
          let never : ⊥ = omega (arith, low, number, same) in
          never

      by : (n m : List ℕ) (r s : ProviderNode) → r.provider.directory.history ≡ s.provider.directory.history → ((n ≡ name) × (added ≡ r)) ⊎ ((bytes_eq n name ≡ false) × (provider_nodes_by state.provider_nodes n ≡ Some r))
          → ((m ≡ name) × (added ≡ s)) ⊎ ((bytes_eq m name ≡ false) × (provider_nodes_by state.provider_nodes m ≡ Some s)) → n ≡ m
      by n m r s same (inl here) (inl here') = here.0 ∙ sym here'.0
      by n m r s same (inl here) (inr was) = absurd (below m s r was.1 here.1 (sym same))
      by n m r s same (inr was) (inl here) = absurd (below n r s was.1 here.1 same)
      by n m r s same (inr was) (inr was') = is.apart n m r s was.1 was'.1 same

  -- each of the others is what it was
  pub become_pushed : AllBecome (provider_nodes_by state.provider_nodes) (provider_nodes_by more)
  become_pushed n r e = record { now = r; there = find-more (is_provider_node n) state.provider_nodes added r e; grows = grows_itself r }

  -- a consumer among n nodes is one among n + 1
  pub consumer_node_grown : (said : List ReportLine) (f : ConsumerNode) → IsConsumerNode said state.nodes state.provider_nodes f → IsConsumerNode said (state.nodes + 1) more f
  consumer_node_grown said f is = record {
    provider_node = is.provider_node;
    there = find-more (is_provider_node f.source) state.provider_nodes added is.provider_node is.there;
    fed = is.fed;
    promised =
        λ n s e. elim (found_after (provider_nodes_by state.provider_nodes) (provider_nodes_by more) name added pushed n s e) [
          | inl here ↦
              let above : state.nodes < state.nodes + 1 = omega arith in
              let small : state.nodes + 1 ≤ 16 = omega (arith, room) in
              let P : ProviderNode → Type 0 = λ x. Promises x.provider.directory.history f.consumer.spec x.provider.directory.writes (known_of f.name said) in
              subst P here.1 (is.undeclared (state.nodes + 1) above small)
          | inr was ↦ is.promised n s was.1
        ];
    undeclared = λ number above low. let above' : state.nodes < number = omega (arith, above) in is.undeclared number above' low;
  }

-- ---- one consumer more

consumer_node_later : (said : List ReportLine) (nodes : ℕ) (provider_nodes : List ProviderNode) (f : ConsumerNode) → IsConsumerNode said nodes provider_nodes f → IsConsumerNode said (nodes + 1) provider_nodes f
consumer_node_later said nodes provider_nodes f is = record {
  provider_node = is.provider_node;
  there = is.there;
  fed = is.fed;
  promised = is.promised;
  undeclared = λ number above low. let above' : nodes < number = omega (arith, above) in is.undeclared number above' low;
}

numbered_later : (nodes : ℕ) (provider_nodes : List ProviderNode) → AreNumbered nodes provider_nodes → AreNumbered (nodes + 1) provider_nodes
numbered_later nodes provider_nodes is = record { within = λ n s e. let low = is.within n s e in omega (arith, low); apart = is.apart }

module _ (rest_is : RestIsFed) (said : List ReportLine) (state : WorldState) (name source : List ℕ) (search : Search) (reload : Bool) (r : ProviderNode) (new : IsNew state name) (left : IsLeft name said)
    (e : provider_node_named source state ≡ Some r) (below : is_offered search r ≡ true) where
  abbrev pub comer : ConsumerNode
  comer = new_consumer_node name source search reload

  abbrev pub comers : List ConsumerNode
  comers = state.consumer_nodes ++ comer ∷ []

  -- the new consumer stands under its name, and all others as before
  pub came : IsChanged (consumer_nodes_by state.consumer_nodes) (consumer_nodes_by comers) name comer
  came = consumer_node_pushed state.consumer_nodes comer new.consumer_node

  nothing : known_of name said ≡ nothing_known
  nothing = left.known nothing_known

  -- among these providers
  pub new_consumer_node_is : (nodes : ℕ) (provider_nodes : List ProviderNode) → provider_nodes_by provider_nodes source ≡ Some r → IsConsumerNode said nodes provider_nodes comer
  new_consumer_node_is nodes provider_nodes there =
      let number = r.provider.directory.history in
      let fed : IsFed number r.provider comer nothing_known = rest_is number r.provider comer refl refl refl refl refl below in
      record {
        provider_node = r;
        there = there;
        fed = subst (IsFed number r.provider comer) (sym nothing) fed;
        promised = λ n s found. subst (Promises s.provider.directory.history search s.provider.directory.writes) (sym nothing) tt;
        undeclared = λ number' above low. subst (Promises number' search []) (sym nothing) tt;
      }

  -- with it each consumer is fed by its provider
  pub consumer_nodes_came : (nodes : ℕ) (provider_nodes : List ProviderNode) → provider_nodes_by provider_nodes source ≡ Some r → AreConsumerNodes said nodes provider_nodes state.consumer_nodes → AreConsumerNodes said nodes provider_nodes comers
  consumer_nodes_came nodes provider_nodes there is n g found =
      elim (found_after (consumer_nodes_by state.consumer_nodes) (consumer_nodes_by comers) name comer came n g found) [
        | inl here ↦ subst (IsConsumerNode said nodes provider_nodes) here.1 (new_consumer_node_is nodes provider_nodes there)
        | inr was ↦ is n g was.1
      ]

  -- it has no search
  pub apart_came : AllApart state.consumer_nodes → AllApart comers
  apart_came is n m g h found found' differs alike =
      elim (found_after (consumer_nodes_by state.consumer_nodes) (consumer_nodes_by comers) name comer came n g found) [
        | inl here ↦ λ at one two. no_search g at here.1 one
        | inr was ↦
            elim (found_after (consumer_nodes_by state.consumer_nodes) (consumer_nodes_by comers) name comer came m h found') [
              | inl here' ↦ λ at one two. no_search h at here'.1 two
              | inr was' ↦ is n m g h was.1 was'.1 differs alike
            ]
      ]
    where
      no_search : (x : ConsumerNode) (at : ℕ) → comer ≡ x → x.search ≡ Some at → ⊥
      no_search x at same has = let bad : None ≡ Some at = ap (λ (y : ConsumerNode). y.search) same ∙ has in cc

  -- the providers above it have other names
  above_avoids : Feeds said state → (path : List (List ℕ)) (n top : List ℕ) (s : ProviderNode) → provider_nodes_by state.provider_nodes n ≡ Some s → Climbs state.consumer_nodes n path top → Avoids name (n ∷ path)
  above_avoids feeds [] n top s there c = (other_provider_node state name n s new there, tt)
  above_avoids feeds (next ∷ path) n top s there c =
      let is = found_above (consumer_nodes_by state.consumer_nodes n) next c.0 in
      let f = feeds.consumer_nodes n is.consumer_node is.there in
      (other_provider_node state name n s new there, above_avoids feeds path next top f.provider_node (ap (provider_nodes_by state.provider_nodes) (sym is.source) ∙ f.there) c.1)

  -- from each consumer the providers still lead up to a root
  pub climbs_came : Feeds said state → AllClimb comers
  climbs_came feeds =
      let way = feeds.climbs source in
      all_climb_rerouted state.consumer_nodes comers name source way.0 way.1
      (record { here = ap (option_map (λ (h : ConsumerNode). h.source)) came.here; others = λ other miss. ap (option_map (λ (h : ConsumerNode). h.source)) (came.others other miss) }) way.2
      (above_avoids feeds way.0 source way.1 r e way.2) feeds.climbs

  -- there are no more consumers than nodes
  pub counted_came : length state.consumer_nodes ≤ state.nodes → length comers ≤ state.nodes + 1
  counted_came low = let long : length comers ≡ length state.consumer_nodes + 1 = length-append state.consumer_nodes (comer ∷ []) in omega (arith, long, low)

-- ---- a root

root_tracked : FreshIsSource → (before : List Order) (said : List ReportLine) (state : WorldState) (name : List ℕ) (suffix : List (List TypeAndValue)) → IsNew state name → Tracks before said state → state.nodes < most_nodes
    → Tracks (before ++ asks.Provider name suffix ∷ []) said (with_root state name suffix)
root_tracked fresh_is before said state name suffix new is room = record {
  orders = record {
    time = time_still before order state.clock (λ t. refl) is.orders.time;
    count = counted_now before order state.nodes refl is.orders.count;
    provider_nodes =
        provider_nodes_declared before order state.provider_nodes all name s (λ n. tt) changed (record { later = []; declared = declared_now before state.nodes order is.orders.count; accepted = refl }) is.orders.provider_nodes;
    consumers = consumers_still before order state.consumer_nodes (λ n f e. refl) is.orders.consumers;
    strangers = strangers_still before order state.consumer_nodes (λ n e. refl) is.orders.strangers;
  };
  feeds = record {
    clock = is.feeds.clock;
    few = omega (arith, room);
    counted = let low = is.feeds.counted in omega (arith, low);
    sources = sources_pushed fresh_is state Root name suffix new room is.feeds.sources;
    numbered = numbered_pushed fresh_is state Root name suffix new room is.feeds.numbered;
    consumer_nodes = λ n f e. consumer_node_grown fresh_is state Root name suffix new room said f (is.feeds.consumer_nodes n f e);
    apart = is.feeds.apart;
    owned = owned_provider_node state.provider_nodes state.consumer_nodes s refl is.feeds.owned;
    manned = manned;
    climbs = is.feeds.climbs;
    rooted = λ n. rooted_grown state.provider_nodes all (become_pushed fresh_is state Root name suffix new room) (stored_of n said) (is.feeds.rooted n);
  };
  commits = committers_changed said state.provider_nodes all name s changed tt (committers_but name said state.provider_nodes is.commits);
}
  where
    order : Order
    order = asks.Provider name suffix

    s : ProviderNode
    s = new_provider_node state Root name suffix

    all : List ProviderNode
    all = state.provider_nodes ++ s ∷ []

    changed : IsChanged (provider_nodes_by state.provider_nodes) (provider_nodes_by all) name s
    changed = pushed fresh_is state Root name suffix new room

    manned : AreManned all state.consumer_nodes
    manned n x e =
        elim (found_after (provider_nodes_by state.provider_nodes) (provider_nodes_by all) name s changed n x e) [
          | inl here ↦
              let none : is_some (consumer_nodes_by state.consumer_nodes n) ≡ false = ap (λ m. is_some (consumer_nodes_by state.consumer_nodes m)) here.0 ∙ ap is_some new.consumer_node in
              let P : ProviderNode → Type 0 = λ y. IsManned y.provider.kind (is_some (consumer_nodes_by state.consumer_nodes n)) in subst P here.1 none
          | inr was ↦ is.feeds.manned n x was.1
        ]

-- what holds of the nodes holds after the declaration of a root
pub provider_after : FreshIsSource → (before : List Order) (said : List ReportLine) (state : WorldState) (name : List ℕ) (suffix : List (List TypeAndValue)) → Tracks before said state → After before said (asks.Provider name suffix) (declare_root state name suffix)
provider_after fresh_is before said state name suffix is =
    lookup.root_declared (After before said (asks.Provider name suffix)) (λ cause. tt) state name suffix (λ new room.
    (nothing_said (before ++ asks.Provider name suffix ∷ []) said (with_root state name suffix) (root_tracked fresh_is before said state name suffix (is_new state name new) is room), tt))

-- ---- a consumer

asks_consumer : (name source : List ℕ) (search : Search) (reload : Bool) → AsksOf (asks.Consumer name source search reload) name
asks_consumer name source search reload = record { others = λ other now apart. rw apart refl }

asks_replica : (name source : List ℕ) (search : Search) (reload : Bool) → AsksOf (asks.Replica name source search reload) name
asks_replica name source search reload = record { others = λ other now apart. rw apart refl }

consumer_tracked : RestIsFed → (before : List Order) (said : List ReportLine) (state : WorldState) (name source : List ℕ) (search : Search) (reload : Bool) (r : ProviderNode) → IsNew state name → IsLeft name said → provider_node_named source state ≡ Some r
    → is_offered search r ≡ true → Tracks before said state → state.nodes < most_nodes → Tracks (before ++ asks.Consumer name source search reload ∷ []) said (with_consumer state (new_consumer_node name source search reload))
consumer_tracked rest_is before said state name source search reload r new left e below is room = record {
  orders = record {
    time = time_still before order state.clock (λ t. refl) is.orders.time;
    count = counted_now before order state.nodes refl is.orders.count;
    provider_nodes = λ n x found. provider_node_kept before order x tt (is.orders.provider_nodes n x found);
    consumers =
        consumers_asked before order state.consumer_nodes all name f (asks_consumer name source search reload) (let hit = itself name in rw hit refl) changed is.orders.consumers;
    strangers = strangers_asked before order state.consumer_nodes all name f (asks_consumer name source search reload) changed is.orders.strangers;
  };
  feeds = record {
    clock = is.feeds.clock;
    few = omega (arith, room);
    counted = counted_came rest_is said state name source search reload r new left e below is.feeds.counted;
    sources = is.feeds.sources;
    numbered = numbered_later state.nodes state.provider_nodes is.feeds.numbered;
    consumer_nodes =
        consumer_nodes_came rest_is said state name source search reload r new left e below (state.nodes + 1) state.provider_nodes e
        (λ n g found. consumer_node_later said state.nodes state.provider_nodes g (is.feeds.consumer_nodes n g found));
    apart = apart_came rest_is said state name source search reload r new left e below is.feeds.apart;
    owned = owned_consumer_node state.provider_nodes state.consumer_nodes f is.feeds.owned;
    manned =
        λ n x found. let same = changed.others n (other_provider_node state name n x new found) in
        let P : Option ConsumerNode → Type 0 = λ o. IsManned x.provider.kind (is_some o) in
        subst P (sym same) (is.feeds.manned n x found);
    climbs = climbs_came rest_is said state name source search reload r new left e below is.feeds;
    rooted = is.feeds.rooted;
  };
  commits = is.commits;
}
  where
    order : Order
    order = asks.Consumer name source search reload

    f : ConsumerNode
    f = new_consumer_node name source search reload

    all : List ConsumerNode
    all = state.consumer_nodes ++ f ∷ []

    changed : IsChanged (consumer_nodes_by state.consumer_nodes) (consumer_nodes_by all) name f
    changed = came rest_is said state name source search reload r new left e below

-- ---- a replica

replica_tracked : FreshIsSource → RestIsFed → (before : List Order) (said : List ReportLine) (state : WorldState) (name source : List ℕ) (search : Search) (reload : Bool) (r : ProviderNode) → IsNew state name → IsLeft name said → provider_node_named source state ≡ Some r
    → is_offered search r ≡ true → Tracks before said state → state.nodes < most_nodes → Tracks (before ++ asks.Replica name source search reload ∷ []) said (with_replica state (new_consumer_node name source search reload))
replica_tracked fresh_is rest_is before said state name source search reload r new left e below is room = record {
  orders = record {
    time = time_still before order state.clock (λ t. refl) is.orders.time;
    count = counted_now before order state.nodes refl is.orders.count;
    provider_nodes =
        provider_nodes_declared before order state.provider_nodes provider_nodes name s (λ n. tt) changed
        (record { source = source; search = search; reload = reload; later = []; declared = declared_now before state.nodes order is.orders.count }) is.orders.provider_nodes;
    consumers =
        consumers_asked before order state.consumer_nodes consumer_nodes name f (asks_replica name source search reload) (let hit = itself name in rw hit refl) changed' is.orders.consumers;
    strangers = strangers_asked before order state.consumer_nodes consumer_nodes name f (asks_replica name source search reload) changed' is.orders.strangers;
  };
  feeds = record {
    clock = is.feeds.clock;
    few = omega (arith, room);
    counted = counted_came rest_is said state name source search reload r new left e below is.feeds.counted;
    sources = sources_pushed fresh_is state Replica name [] new room is.feeds.sources;
    numbered = numbered_pushed fresh_is state Replica name [] new room is.feeds.numbered;
    consumer_nodes =
        consumer_nodes_came rest_is said state name source search reload r new left e below (state.nodes + 1) provider_nodes (find-more (is_provider_node source) state.provider_nodes s r e)
        (λ n g found. consumer_node_grown fresh_is state Replica name [] new room said g (is.feeds.consumer_nodes n g found));
    apart = apart_came rest_is said state name source search reload r new left e below is.feeds.apart;
    owned = owned_consumer_node provider_nodes state.consumer_nodes f (owned_provider_node state.provider_nodes state.consumer_nodes s refl is.feeds.owned);
    manned = manned;
    climbs = climbs_came rest_is said state name source search reload r new left e below is.feeds;
    rooted = λ n. rooted_grown state.provider_nodes provider_nodes (become_pushed fresh_is state Replica name [] new room) (stored_of n said) (is.feeds.rooted n);
  };
  commits = committers_changed said state.provider_nodes provider_nodes name s changed has (committers_but name said state.provider_nodes is.commits);
}
  where
    order : Order
    order = asks.Replica name source search reload

    f : ConsumerNode
    f = new_consumer_node name source search reload

    s : ProviderNode
    s = new_provider_node state Replica name []

    provider_nodes : List ProviderNode
    provider_nodes = state.provider_nodes ++ s ∷ []

    consumer_nodes : List ConsumerNode
    consumer_nodes = state.consumer_nodes ++ f ∷ []

    changed : IsChanged (provider_nodes_by state.provider_nodes) (provider_nodes_by provider_nodes) name s
    changed = pushed fresh_is state Replica name [] new room

    changed' : IsChanged (consumer_nodes_by state.consumer_nodes) (consumer_nodes_by consumer_nodes) name f
    changed' = came rest_is said state name source search reload r new left e below

    -- nothing is reported of it yet
    has : HasCommitted (state.nodes + 1) said name [] []
    has = record {
      commits = sym (left.commits (state.nodes + 1) (record { time = 0; writes = [] }));
      notes_are = ap (map noted) (sym left.stored);
      held = entries_after-none (state.nodes + 1) ∙ ap (λ (k : Known). k.entries) (sym (left.known nothing_known));
      counted = ap length (sym left.stored);
      each = λ at stored found. let bad : None ≡ Some stored = ap (λ l. slice_get l at) (sym left.stored) ∙ found in let never : ⊥ = cc in absurd never;
    }

    manned : AreManned provider_nodes consumer_nodes
    manned n x found =
        elim (found_after (provider_nodes_by state.provider_nodes) (provider_nodes_by provider_nodes) name s changed n x found) [
          | inl here ↦
              let some : is_some (consumer_nodes_by consumer_nodes n) ≡ true = ap (λ m. is_some (consumer_nodes_by consumer_nodes m)) here.0 ∙ ap is_some changed'.here in
              let P : ProviderNode → Type 0 = λ y. IsManned y.provider.kind (is_some (consumer_nodes_by consumer_nodes n)) in subst P here.1 some
          | inr was ↦
              let same = changed'.others n was.0 in
              let P : Option ConsumerNode → Type 0 = λ o. IsManned x.provider.kind (is_some o) in subst P (sym same) (is.feeds.manned n x was.1)
        ]

-- ---- each with its provider

-- and after that of a consumer
pub consumer_after : RestIsFed → (before : List Order) (said : List ReportLine) (state : WorldState) (name source : List ℕ) (search : Search) (reload : Bool) → AreReported state said → Tracks before said state
    → After before said (asks.Consumer name source search reload) (declare_consumer_node state name source search (with_consumer state (new_consumer_node name source search reload)))
consumer_after rest_is before said state name source search reload reported is =
    let order = asks.Consumer name source search reload in
    let after = with_consumer state (new_consumer_node name source search reload) in
    lookup.consumer_declared (After before said order) (λ cause. tt) state name source search after (λ new r e below room.
    (nothing_said (before ++ order ∷ []) said after (consumer_tracked rest_is before said state name source search reload r (is_new state name new) (left_for_new name state said new reported.of_nodes) e below is room), tt))

-- and after that of a replica
pub replica_after : FreshIsSource → RestIsFed → (before : List Order) (said : List ReportLine) (state : WorldState) (name source : List ℕ) (search : Search) (reload : Bool) → AreReported state said → Tracks before said state
    → After before said (asks.Replica name source search reload) (declare_consumer_node state name source search (with_replica state (new_consumer_node name source search reload)))
replica_after fresh_is rest_is before said state name source search reload reported is =
    let order = asks.Replica name source search reload in
    let after = with_replica state (new_consumer_node name source search reload) in
    lookup.consumer_declared (After before said order) (λ cause. tt) state name source search after (λ new r e below room.
    (nothing_said (before ++ order ∷ []) said after (replica_tracked fresh_is rest_is before said state name source search reload r (is_new state name new) (left_for_new name state said new reported.of_nodes) e below is room), tt))
