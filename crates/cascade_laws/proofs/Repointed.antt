-- What holds of the nodes after a consumer got another provider, or wants something else.
use Rattle.std.proofs.Common.{◌≡◌, ℕ, true, false, Option, Some, None, List, ◌++◌, length, refl, ap, sym, subst, ◌∙◌, inl, inr, arith}
use Rattle.std.proofs.lemmas.Bool.{cases_Bool}
use Rattle.std.specs.Prelude.{Ok, Err, option_map}
use Rattle.std.specs.Str.{bytes_eq}
use Rattle.dn_names.specs.Names.{is_at_or_below}
use Rattle.entry_tree.specs.Selection.{Search}
use Rattle.entry_tree.proofs.NameKeys.{same_bytes}
use Rattle.cascade_exchange.specs.declared.exchange.Exchange.TheVariants as goes
use Rattle.cascade_nodes.specs.declared.node.ProviderNode.{ProviderNode}
use Rattle.cascade_nodes.specs.declared.node.ConsumerNode.{ConsumerNode}
use Rattle.cascade_nodes.proofs.Fed.{IsAtRest}
use Rattle.cascade_world.specs.Exchange.{Agreement, ExchangeOutcome, agreement_of, idle, respecs, is_busy}
use Rattle.cascade_laws.specs.Headline.{following, followed, known_of}
use Rattle.cascade_world.specs.Nodes.{source_of}
use Rattle.cascade_script.specs.Orders.{Order}
use Rattle.cascade_script.specs.Orders.{Order as asks}
use Rattle.cascade_world.specs.ReportLines.{ReportLine}
use Rattle.cascade_world.specs.World.{WorldState, StepOutcome, is_consumer_node, provider_node_named, consumer_node_named, with_outcome, lineage_of, between, exchange_of, exchange, is_offered, is_fed, pointed, pointed_after, repoint, respec}
use Rattle.cascade_laws.proofs.Exchanged.{done_kept, done_respecced}
use Rattle.cascade_laws.proofs.Exchanges.{After, PartsKnown, ThroughIn, outcome_through}
use Rattle.cascade_exchange.proofs.Exchanging.{Alters, AltersIn, as_before, idle_keeps, respecs_alters}
use Rattle.cascade_exchange.proofs.Silence.{idle_silent}
use Rattle.cascade_laws.proofs.Feeding.{IsKept, IsRespecced, PartsAreKept, RespecsAreKept, IdlesRest, RestsAreFed}
use Rattle.cascade_world.proofs.Finding.{IsChanged, found_after, found_still, provider_nodes_by, consumer_nodes_by, pointed_changed}
use Rattle.cascade_world.proofs.Found as lookup
use Rattle.cascade_laws.proofs.Growing.{HasBecome, been_itself, manned_grown, fed_by}
use Rattle.cascade_laws.proofs.Ordered.{IsQuiet, orders_asked}
use Rattle.cascade_laws.proofs.Reporting.{GivenIn, silent_given}
use Rattle.cascade_world.proofs.SameNames.{itself, pointed_at}
use Rattle.cascade_world.proofs.Climbing.{AllClimb, climbs_same, all_climb_rerouted, few_above, unfed}
use Rattle.cascade_world.proofs.Owning.{owned_pointed, room_of}
use Rattle.cascade_world.proofs.Lists.{length-first_changed}
use Rattle.cascade_laws.proofs.Tracking.{IsConsumerNode, AllApart, Feeds, Tracks}

-- what a step that ends so is
through_found : (state : WorldState) (name : List ℕ) (part : Agreement → ExchangeOutcome) (f : ConsumerNode) (r : ProviderNode) → consumer_node_named name state ≡ Some f → provider_node_named f.source state ≡ Some r
    → exchange state name part ≡ with_outcome state (part (agreement_of r.provider f (lineage_of state r)))
through_found state name part f r e e' = ap (exchange_of state part) e ∙ ap (between state f part) e'

changed_twice : (old mid new : List ℕ → Option ConsumerNode) (name : List ℕ) (f g : ConsumerNode) → IsChanged old mid name f → IsChanged mid new name g → IsChanged old new name g
changed_twice old mid new name f g first second = record { here = second.here; others = λ other miss. second.others other miss ∙ first.others other miss }

-- ---- another provider

-- one that is at rest
module _ (fed : RestsAreFed) (said : List ReportLine) (state : WorldState) (name source : List ℕ) (g : ConsumerNode) (s : ProviderNode) (is : Feeds said state) (e : consumer_nodes_by state.consumer_nodes name ≡ Some g) (rest : IsAtRest g)
    (there : provider_nodes_by state.provider_nodes source ≡ Some s) (below : is_at_or_below g.consumer.spec.base s.provider.directory.suffix ≡ true) (climbs : AllClimb (pointed name source state).consumer_nodes) where
  abbrev pub to : ConsumerNode
  to = pointed_at source g

  abbrev pub all : List ConsumerNode
  all = (pointed name source state).consumer_nodes

  changed : IsChanged (consumer_nodes_by state.consumer_nodes) (consumer_nodes_by all) name to
  changed = pointed_changed state.consumer_nodes name source g e

  pointed_is : IsConsumerNode said state.nodes state.provider_nodes to
  pointed_is =
      let was = is.consumer_nodes name g e in
      let known = known_of g.name said in
      let rest' : IsAtRest to = record { search = rest.search; session = rest.session; link = rest.link } in
      record {
        provider_node = s;
        there = there;
        fed = fed was.provider_node.provider.directory.history s.provider.directory.history was.provider_node.provider s.provider g to known was.fed rest' refl (was.promised source s there) below;
        promised = was.promised;
        undeclared = was.undeclared;
      }

  apart_pointed : AllApart all
  apart_pointed n m h k found found' differs alike =
      elim (found_after (consumer_nodes_by state.consumer_nodes) (consumer_nodes_by all) name to changed n h found) [
        | inl here ↦ λ at left right. no_search h at here.1 left
        | inr was ↦
            elim (found_after (consumer_nodes_by state.consumer_nodes) (consumer_nodes_by all) name to changed m k found') [
              | inl here' ↦ λ at left right. no_search k at here'.1 right
              | inr was' ↦ is.apart n m h k was.1 was'.1 differs alike
            ]
      ]
    where
      no_search : (x : ConsumerNode) (at : ℕ) → to ≡ x → x.search ≡ Some at → ⊥
      no_search x at same has = let bad : None ≡ Some at = sym rest.search ∙ ap (λ (y : ConsumerNode). y.search) same ∙ has in cc

  -- each consumer is fed by its provider, also the one that has another provider now
  pub pointed_feeds : Feeds said (pointed name source state)
  pointed_feeds = record {
    clock = is.clock;
    few = is.few;
    counted = omega (arith, long, is.counted);
    sources = is.sources;
    numbered = is.numbered;
    consumer_nodes =
        λ n h found. elim (found_after (consumer_nodes_by state.consumer_nodes) (consumer_nodes_by all) name to changed n h found) [
          | inl here ↦ subst (IsConsumerNode said state.nodes state.provider_nodes) here.1 pointed_is
          | inr was ↦ is.consumer_nodes n h was.1
        ];
    apart = apart_pointed;
    owned = owned_pointed state.provider_nodes state.consumer_nodes all name g to e changed rest.search is.owned;
    manned = manned_grown state.provider_nodes state.provider_nodes state.consumer_nodes all (been_itself (provider_nodes_by state.provider_nodes)) (found_still (consumer_nodes_by state.consumer_nodes) (consumer_nodes_by all) name g to e changed) is.manned;
    climbs = climbs;
    rooted = is.rooted;
  }
    where
      long : length all ≡ length state.consumer_nodes
      long = length-first_changed (is_consumer_node name) (pointed_at source) state.consumer_nodes

-- ---- repointing

pub record Pointing : Type 0 where
  pub known : PartsKnown
  pub parts : PartsAreKept
  pub rests : RestsAreFed
  pub idles : IdlesRest

quiet_repoint : (name source : List ℕ) → IsQuiet (asks.Repoint name source)
quiet_repoint name source = record { untouched = λ other. tt; still = λ time. refl; undeclared = refl }

module _ (p : Pointing) (before : List Order) (said : List ReportLine) (state : WorldState) (source : List ℕ) (f : ConsumerNode) (r s : ProviderNode) (e : consumer_nodes_by state.consumer_nodes f.name ≡ Some f) (e' : provider_nodes_by state.provider_nodes f.source ≡ Some r)
    (there : provider_nodes_by state.provider_nodes source ≡ Some s) (free : is_fed state f.name source ≡ false) (offered : is_offered f.consumer.spec s ≡ true) (is : Tracks before said state) where
  abbrev order : Order
  order = asks.Repoint f.name source

  abbrev pair : Agreement
  pair = agreement_of r.provider f (lineage_of state r)

  -- once it is idle
  through_pointed : (after : Agreement) (lines : List ReportLine) → Alters as_before pair after lines → IsAtRest after.consumer_node → (next : StepOutcome) → next ≡ with_outcome state (Ok (after, lines))
      → ThroughIn before order said state f after.consumer_node next → After before said order (pointed_after f.name source next)
  through_pointed after lines keeps rest (Err cause) same through = tt
  through_pointed after lines keeps rest (Ok next) same through = (
    record {
      orders =
          orders_asked before order state (pointed f.name source done) f.name f (pointed_at source g) (quiet_repoint f.name source) (record { others = λ other now apart. rw apart refl }) follows through.clock through.nodes e
          (changed_twice (consumer_nodes_by state.consumer_nodes) (consumer_nodes_by done.consumer_nodes) (consumer_nodes_by (pointed f.name source done).consumer_nodes) f.name g (pointed_at source g) through.changed
          (pointed_changed done.consumer_nodes f.name source g through.changed.here)) through.provider_nodes is.orders;
      feeds = pointed_feeds p.rests (said ++ next.1) done f.name source g b.now through.feeds through.changed.here rest b.there below climbs;
      commits = through.commits;
    },
    through.right,
  )
    where
      done : WorldState
      done = next.0

      g : ConsumerNode
      g = after.consumer_node

      b : HasBecome (provider_nodes_by done.provider_nodes) source s
      b = through.become source s there

      below : is_at_or_below g.consumer.spec.base b.now.provider.directory.suffix ≡ true
      below = ap (λ (x : Search). is_at_or_below x.base b.now.provider.directory.suffix) keeps.spec ∙ ap (is_at_or_below f.consumer.spec.base) b.grows.suffix ∙ offered

      sources : (n : List ℕ) → source_of done.consumer_nodes n ≡ source_of state.consumer_nodes n
      sources n =
          elim (cases_Bool (bytes_eq n f.name)) [
            | inl hit ↦
                let alike : n ≡ f.name = same_bytes n f.name hit in
                let was : consumer_nodes_by state.consumer_nodes n ≡ Some f = ap (consumer_nodes_by state.consumer_nodes) alike ∙ e in
                let new : consumer_nodes_by done.consumer_nodes n ≡ Some g = ap (consumer_nodes_by done.consumer_nodes) alike ∙ through.changed.here in
                ap (option_map (λ (h : ConsumerNode). h.source)) new ∙ ap Some keeps.source ∙ sym (ap (option_map (λ (h : ConsumerNode). h.source)) was)
            | inr miss ↦ ap (option_map (λ (h : ConsumerNode). h.source)) (through.changed.others n miss)
          ]

      climbs : AllClimb (pointed f.name source done).consumer_nodes
      climbs =
          let way = is.feeds.climbs source in
          let above = unfed (length state.consumer_nodes) state.consumer_nodes f.name source way.0 way.1 way.2 (few_above way.0 state.consumer_nodes source way.1 way.2) free in
          let at = pointed_changed done.consumer_nodes f.name source g through.changed.here in
          all_climb_rerouted done.consumer_nodes (pointed f.name source done).consumer_nodes f.name source way.0 way.1
          (record { here = ap (option_map (λ (h : ConsumerNode). h.source)) at.here; others = λ other miss. ap (option_map (λ (h : ConsumerNode). h.source)) (at.others other miss) })
          (climbs_same state.consumer_nodes done.consumer_nodes sources source way.0 way.1 way.2) above through.feeds.climbs

      follows : followed f.name (Some (following f.source f.consumer.spec f.consumer.reload)) order ≡ Some (following source g.consumer.spec g.consumer.reload)
      follows =
          let hit = itself f.name in
          rw hit (ap (λ w. Some (following source w f.consumer.reload)) (sym keeps.spec) ∙ ap (λ b'. Some (following source g.consumer.spec b')) (sym keeps.reload))

  outcome_pointed : (outcome : ExchangeOutcome) → idle pair ≡ outcome → AltersIn as_before pair outcome → GivenIn order outcome → After before said order (pointed_after f.name source (with_outcome state outcome))
  outcome_pointed (Err cause) same keeps gives = tt
  outcome_pointed (Ok next) same keeps gives =
      let number = r.provider.directory.history in
      let suffix = r.provider.directory.suffix in
      let reported = known_of f.name said in
      let kept : IsKept number suffix pair next.0 next.1 reported =
      p.parts number suffix pair next.0 next.1 reported goes.CutIfBusy tt (is.feeds.sources f.source r e') (fed_by said state.nodes state.provider_nodes f.source r f e' refl (is.feeds.consumer_nodes f.name f e))
      (room_of state.provider_nodes state.consumer_nodes f.source r f e' (omega (arith, is.feeds.counted, is.feeds.few)) is.feeds.owned) same in
      through_pointed next.0 next.1 keeps (p.idles pair next.0 next.1 same) (with_outcome state (Ok next)) refl
      (outcome_through p.known as_before before order said state f r next.0 next.1 gives e e' (done_kept number suffix pair next.0 next.1 reported kept keeps) keeps is)

  -- what holds of the nodes holds after a `repoint`
  pub repointed : After before said order (pointed_after f.name source (exchange state f.name idle))
  repointed =
      subst (λ x. After before said order (pointed_after f.name source x)) (sym (through_found state f.name idle f r e e'))
      (outcome_pointed (idle pair) refl (idle_keeps pair) (silent_given order false refl (idle pair) (idle_silent false pair)))

-- a consumer that gets another provider
pub repoint_after : Pointing → (before : List Order) (said : List ReportLine) (state : WorldState) (name source : List ℕ) → Tracks before said state → After before said (asks.Repoint name source) (repoint state name source)
repoint_after p before said state name source is =
    lookup.repointed (λ n. After before said (asks.Repoint n source)) (λ n cause. tt) state name source (λ f s e there free inside.
    let was = is.feeds.consumer_nodes f.name f e in repointed p before said state source f was.provider_node s e was.there there free inside is)

-- ---- something else is wanted

quiet_respec : (name : List ℕ) (search : Search) → IsQuiet (asks.Respec name search)
quiet_respec name search = record { untouched = λ other. tt; still = λ time. refl; undeclared = refl }

given_respec : (search : Search) (pair : Agreement) → GivenIn (asks.Respec pair.consumer_node.name search) (respecs search pair)
given_respec search pair =
    elim (cases_Bool (is_busy pair.consumer_node)) [
      | inl busy ↦ rw busy (tt, ((refl, refl), tt))
      | inr free ↦ rw free ((refl, refl), tt)
    ]

module _ (known : PartsKnown) (kept : RespecsAreKept) (before : List Order) (said : List ReportLine) (state : WorldState) (search : Search) (f : ConsumerNode) (r : ProviderNode) (e : consumer_nodes_by state.consumer_nodes f.name ≡ Some f)
    (e' : provider_nodes_by state.provider_nodes f.source ≡ Some r) (offered : is_offered search r ≡ true) (is : Tracks before said state) where
  abbrev wish : Order
  wish = asks.Respec f.name search

  abbrev two : Agreement
  two = agreement_of r.provider f (lineage_of state r)

  through_respecced : (after : Agreement) (lines : List ReportLine) → Alters (λ s. search) two after lines → (next : StepOutcome) → ThroughIn before wish said state f after.consumer_node next → After before said wish next
  through_respecced after lines keeps (Err cause) through = tt
  through_respecced after lines keeps (Ok next) through = (
    record {
      orders =
          orders_asked before wish state next.0 f.name f g (quiet_respec f.name search) (record { others = λ other now apart. rw apart refl }) follows through.clock through.nodes e through.changed through.provider_nodes is.orders;
      feeds = through.feeds;
      commits = through.commits;
    },
    through.right,
  )
    where
      g : ConsumerNode
      g = after.consumer_node

      follows : followed f.name (Some (following f.source f.consumer.spec f.consumer.reload)) wish ≡ Some (following g.source g.consumer.spec g.consumer.reload)
      follows =
          let hit = itself f.name in
          rw hit (
          ap (λ s. Some (following s search f.consumer.reload)) (sym keeps.source) ∙ ap (λ w. Some (following g.source w f.consumer.reload)) (sym keeps.spec)
          ∙ ap (λ b. Some (following g.source g.consumer.spec b)) (sym keeps.reload)
          )

  outcome_respecced : (outcome : ExchangeOutcome) → respecs search two ≡ outcome → AltersIn (λ s. search) two outcome → GivenIn wish outcome → After before said wish (with_outcome state outcome)
  outcome_respecced (Err cause) same keeps gives = tt
  outcome_respecced (Ok next) same keeps gives =
      let number = r.provider.directory.history in
      let suffix = r.provider.directory.suffix in
      let reported = known_of f.name said in
      let done : IsRespecced number suffix search two next.0 next.1 reported =
      kept number suffix search two next.0 next.1 reported offered (is.feeds.sources f.source r e') (fed_by said state.nodes state.provider_nodes f.source r f e' refl (is.feeds.consumer_nodes f.name f e))
      (room_of state.provider_nodes state.consumer_nodes f.source r f e' (omega (arith, is.feeds.counted, is.feeds.few)) is.feeds.owned) same in
      through_respecced next.0 next.1 keeps (with_outcome state (Ok next))
      (outcome_through known (λ s. search) before wish said state f r next.0 next.1 gives e e' (done_respecced number suffix search two next.0 next.1 reported done same) keeps is)

  -- and after a `respec`
  pub respecced : After before said wish (exchange state f.name (respecs search))
  respecced =
      subst (After before said wish) (sym (through_found state f.name (respecs search) f r e e'))
      (outcome_respecced (respecs search two) refl (respecs_alters search two) (given_respec search two))

-- a consumer that wants something else
pub respec_after : PartsKnown → RespecsAreKept → (before : List Order) (said : List ReportLine) (state : WorldState) (name : List ℕ) (search : Search) → Tracks before said state → After before said (asks.Respec name search) (respec state name search)
respec_after known kept before said state name search is =
    lookup.respecced (λ n. After before said (asks.Respec n search)) (λ n cause. tt) state name search (λ f r e there inside. respecced known kept before said state search f r e there inside is)
