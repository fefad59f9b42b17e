-- What holds of the nodes after an order for a consumer and its provider, and what its lines report.
use Rattle.std.proofs.Common.{◌≡◌, ℕ, true, false, Option, Some, List, [], ◌∷◌, ◌++◌, refl, ap, sym, subst, ◌∙◌, inl, inr, arith}
use Rattle.std.specs.Prelude.{Result, Ok, Err}
use Rattle.std.specs.Str.{bytes_eq}
use Rattle.std.proofs.lemmas.Bool.{cases_Bool}
use Rattle.dn_names.specs.Names.{TypeAndValue}
use Rattle.entry_tree.specs.Selection.{Search, search_of}
use Rattle.directory_writes.specs.Directory.{DirectoryState}
use Rattle.directory_writes.proofs.Promised.{PromisesLast}
use Rattle.sync_messages.specs.declared.request.Mode.TheVariants.{RefreshOnly, RefreshAndPersist}
use Rattle.sync_wire.proofs.Servable.{SelectedCanBeServed}
use Rattle.cascade_exchange.specs.declared.exchange.Exchange.{Exchange}
use Rattle.cascade_exchange.specs.declared.exchange.Exchange.TheVariants as goes
use Rattle.cascade_script.specs.declared.fault.Cause.{Cause}
use Rattle.cascade_nodes.specs.declared.node.ProviderNode.{ProviderNode}
use Rattle.cascade_nodes.specs.declared.node.ConsumerNode.{ConsumerNode}
use Rattle.cascade_world.specs.Cookies.{is_later}
use Rattle.cascade_world.specs.Exchange.{Agreement, ExchangeOutcome, agreement_of, part_of, sent, takes, cut, idle, opens, settles}
use Rattle.cascade_laws.specs.Headline.{Following, following, followed, known_of, EachReportsRight}
use Rattle.cascade_script.specs.Orders.{Order}
use Rattle.cascade_script.specs.Orders.{Order as asks}
use Rattle.cascade_world.specs.ReportLines.{ReportLine, stages_of}
use Rattle.cascade_world.specs.World.{WorldState, StepOutcome, provider_node_named, with_pair, commits_in, commits_of, with_lines, with_outcome, lineage_of, exchange}
use Rattle.cascade_laws.proofs.Exchanged.{IsDone, done_kept, pair_feeds, pair_commits, pair_changed, pair_becomes, pair_followed}
use Rattle.cascade_exchange.proofs.Exchanging.{Alters, AltersIn, as_before, sent_keeps, takes_keeps, cut_keeps, idle_keeps, opens_keeps, settles_keeps, loses_cookie_keeps, sets_cookie_keeps}
use Rattle.cascade_exchange.proofs.Silence.{sent_silent, takes_silent, cut_silent, idle_silent, opens_silent, settles_silent}
use Rattle.cascade_laws.proofs.Feeding.{Frame, frame_of, IsKept, PartsAreKept, WantsTheSame, CommitsAreKept}
use Rattle.cascade_world.proofs.Finding.{IsChanged, provider_nodes_by, consumer_nodes_by}
use Rattle.cascade_world.proofs.Found as lookup
use Rattle.cascade_laws.proofs.Finishing.{FinishedIn, finished}
use Rattle.cascade_laws.proofs.Growing.{AllBecome, become_through, fed_by}
use Rattle.cascade_laws.proofs.Ordered.{AllStill, all_still_through, still_changed, IsQuiet, orders_asked}
use Rattle.cascade_laws.proofs.Reporting.{GivenLines, GivenIn, silent_given, serves_of, lines_right}
use Rattle.cascade_world.proofs.SameNames.{other_way}
use Rattle.cascade_world.proofs.Climbing.{source_apart}
use Rattle.cascade_world.proofs.Owning.{room_of}
use Rattle.cascade_laws.proofs.Tracking.{AreCommitters, Feeds, Tracks}

-- what a step leaves and reports
abbrev pub After : List Order → List ReportLine → Order → StepOutcome → Type 0
After before said order (Err cause) = Unit {0}
After before said order (Ok next) = Tracks (before ++ order ∷ []) (said ++ next.1) next.0 × EachReportsRight before order said next.1

-- what is known of a provider and its consumer
pub record PartsKnown : Type 0 where
  pub lasts : PromisesLast
  pub selected : SelectedCanBeServed
  pub commits : CommitsAreKept

-- ---- the state after what a consumer went through with its provider, before the order counts

pub record IsThrough (before : List Order) (order : Order) (said lines : List ReportLine) (state done : WorldState) (f g : ConsumerNode) : Type 0 where
  pub feeds : Feeds (said ++ lines) done
  pub commits : AreCommitters (said ++ lines) done.provider_nodes
  pub provider_nodes : AllStill (provider_nodes_by state.provider_nodes) (provider_nodes_by done.provider_nodes)
  pub become : AllBecome (provider_nodes_by state.provider_nodes) (provider_nodes_by done.provider_nodes)
  pub clock : done.clock ≡ state.clock
  pub nodes : done.nodes ≡ state.nodes
  pub changed : IsChanged (consumer_nodes_by state.consumer_nodes) (consumer_nodes_by done.consumer_nodes) f.name g
  pub right : EachReportsRight before order said lines

abbrev pub ThroughIn : List Order → Order → List ReportLine → WorldState → ConsumerNode → ConsumerNode → StepOutcome → Type 0
ThroughIn before order said state f g (Ok next) = IsThrough before order said next.1 state next.0 f g
ThroughIn before order said state f g (Err cause) = Unit {0}

-- what was done between a provider and its consumer holds of the world into which both are put back
pub outcome_through : PartsKnown → (wants : Search → Search) (before : List Order) (order : Order) (said : List ReportLine) (state : WorldState) (f : ConsumerNode) (r : ProviderNode) (after : Agreement) (lines : List ReportLine) → GivenLines order lines
    → consumer_nodes_by state.consumer_nodes f.name ≡ Some f → provider_nodes_by state.provider_nodes f.source ≡ Some r
    → IsDone r.provider.directory.history r.provider.directory.suffix (agreement_of r.provider f (lineage_of state r)) after lines (known_of f.name said) → Alters wants (agreement_of r.provider f (lineage_of state r)) after lines
    → Tracks before said state → ThroughIn before order said state f after.consumer_node (with_outcome state (Ok (after, lines)))
outcome_through known wants before order said state f r after lines gives e e' done keeps is =
    by (commits_of mid after.consumer_node (stages_of lines)) finish
  where
    mid : WorldState
    mid = with_pair state after

    pair : Agreement
    pair = agreement_of r.provider f (lineage_of state r)

    number : ℕ
    number = r.provider.directory.history

    apart : bytes_eq f.source f.name ≡ false
    apart = source_apart state.consumer_nodes f.name f is.feeds.climbs e

    frame : Frame
    frame = record (frame_of pair) { spec = after.consumer_node.consumer.spec }

    changed : IsChanged (provider_nodes_by state.provider_nodes) (provider_nodes_by mid.provider_nodes) f.source (record r { provider = after.provider })
    changed = pair_changed known.lasts wants said state f r after lines e e' done keeps is.feeds is.commits

    feeds : Feeds (said ++ lines) mid
    feeds = pair_feeds known.lasts wants said state f r after lines e e' done keeps is.feeds is.commits

    own_is : provider_nodes_by mid.provider_nodes f.name ≡ provider_nodes_by state.provider_nodes f.name
    own_is = changed.others f.name (other_way f.source f.name apart)

    finish : FinishedIn (said ++ lines) mid (commits_of mid after.consumer_node (stages_of lines))
    finish =
        let own = finished known.lasts known.commits known.selected said lines state mid f.name f number frame after.consumer_node.consumer.spec (is.feeds.sources f.source r e').good refl refl done.staged e is.feeds is.commits refl own_is feeds
        (pair_commits known.lasts wants said state f r after lines e e' done keeps is.feeds is.commits) in
        subst (λ n. FinishedIn (said ++ lines) mid (commits_in mid after.consumer_node.consumer.spec (stages_of lines) (provider_node_named n mid))) (sym keeps.name) (own (provider_nodes_by mid.provider_nodes f.name) refl)

    right : EachReportsRight before order said lines
    right =
        lines_right before order said number (frame_of pair) lines apart gives keeps.own
        (is.orders.consumers f.name f e) (serves_of before said state f r e' is) done.right

    by : (outcome : Result WorldState Cause) → FinishedIn (said ++ lines) mid outcome → ThroughIn before order said state f after.consumer_node (with_lines lines outcome)
    by (Err cause) finish' = tt
    by (Ok last) finish' = record {
      feeds = finish'.feeds;
      commits = finish'.commits;
      provider_nodes =
          all_still_through (provider_nodes_by state.provider_nodes) (provider_nodes_by mid.provider_nodes) (provider_nodes_by last.provider_nodes)
          (still_changed (provider_nodes_by state.provider_nodes) (provider_nodes_by mid.provider_nodes) f.source r (record r { provider = after.provider }) e' changed (record {
            name = refl;
            kind = keeps.kind;
            history = ap (λ (d : DirectoryState). d.history) keeps.directory;
            suffix = ap (λ (d : DirectoryState). d.suffix) keeps.directory;
            writes = λ root. ap (λ (d : DirectoryState). d.writes) keeps.directory;
          })) finish'.provider_nodes;
      become =
          become_through (provider_nodes_by state.provider_nodes) (provider_nodes_by mid.provider_nodes) (provider_nodes_by last.provider_nodes)
          (pair_becomes known.lasts wants said state f r after lines e e' done keeps is.feeds is.commits) finish'.become;
      clock = finish'.clock;
      nodes = finish'.nodes;
      changed =
          subst (λ fs. IsChanged (consumer_nodes_by state.consumer_nodes) (consumer_nodes_by fs) f.name after.consumer_node) (sym finish'.consumer_nodes)
          (pair_followed known.lasts wants said state f r after lines e e' done keeps is.feeds is.commits);
      right = right;
    }

-- ---- the orders

-- the order for each
abbrev pub asked_by : List ℕ → Exchange → Order
asked_by name (goes.Open RefreshOnly) = asks.OpenOnce name
asked_by name (goes.Open RefreshAndPersist) = asks.OpenStay name
asked_by name (goes.Send count) = asks.Send name count
asked_by name (goes.Take count) = asks.Take name count
asked_by name goes.Cut = asks.Cut name
asked_by name goes.Settle = asks.Settle name
asked_by name goes.LoseCookie = asks.Lose name
asked_by name (goes.SetCookie text) = asks.Cookie name text
asked_by name goes.CutIfBusy = asks.Cut name
asked_by name (goes.Respec spec) = asks.Respec name (search_of spec)

-- an order after which all follow what they did
record IsCalm (order : Order) : Type 0 where
  quiet : IsQuiet order
  same : (consumer : List ℕ) (now : Option Following) → followed consumer now order ≡ now

calm_by : (name : List ℕ) (exchange : Exchange) → WantsTheSame exchange → IsCalm (asked_by name exchange)
calm_by name (goes.Open RefreshOnly) same = record { quiet = record { untouched = λ other. tt; still = λ time. refl; undeclared = refl }; same = λ consumer now. refl }
calm_by name (goes.Open RefreshAndPersist) same = record { quiet = record { untouched = λ other. tt; still = λ time. refl; undeclared = refl }; same = λ consumer now. refl }
calm_by name (goes.Send count) same = record { quiet = record { untouched = λ other. tt; still = λ time. refl; undeclared = refl }; same = λ consumer now. refl }
calm_by name (goes.Take count) same = record { quiet = record { untouched = λ other. tt; still = λ time. refl; undeclared = refl }; same = λ consumer now. refl }
calm_by name goes.Cut same = record { quiet = record { untouched = λ other. tt; still = λ time. refl; undeclared = refl }; same = λ consumer now. refl }
calm_by name goes.Settle same = record { quiet = record { untouched = λ other. tt; still = λ time. refl; undeclared = refl }; same = λ consumer now. refl }
calm_by name goes.LoseCookie same = record { quiet = record { untouched = λ other. tt; still = λ time. refl; undeclared = refl }; same = λ consumer now. refl }
calm_by name (goes.SetCookie text) same = record { quiet = record { untouched = λ other. tt; still = λ time. refl; undeclared = refl }; same = λ consumer now. refl }
calm_by name goes.CutIfBusy same = record { quiet = record { untouched = λ other. tt; still = λ time. refl; undeclared = refl }; same = λ consumer now. refl }
calm_by name (goes.Respec spec) same = absurd same

-- what is reported of a cookie is what the order gives
given_by : (pair : Agreement) (exchange : Exchange) → WantsTheSame exchange → GivenIn (asked_by pair.consumer_node.name exchange) (part_of exchange pair)
given_by pair (goes.Open RefreshOnly) same = silent_given (asks.OpenOnce pair.consumer_node.name) false refl (opens RefreshOnly pair) (opens_silent false RefreshOnly refl pair)
given_by pair (goes.Open RefreshAndPersist) same = silent_given (asks.OpenStay pair.consumer_node.name) true refl (opens RefreshAndPersist pair) (opens_silent true RefreshAndPersist refl pair)
given_by pair (goes.Send count) same = silent_given (asks.Send pair.consumer_node.name count) false refl (sent count pair) (sent_silent false count pair)
given_by pair (goes.Take count) same = silent_given (asks.Take pair.consumer_node.name count) false refl (takes count pair) (takes_silent false count pair)
given_by pair goes.Cut same = silent_given (asks.Cut pair.consumer_node.name) false refl (cut pair) (cut_silent false pair)
given_by pair goes.Settle same = silent_given (asks.Settle pair.consumer_node.name) false refl (settles pair) (settles_silent false refl pair)
given_by pair goes.LoseCookie same = ((refl, refl), tt)
given_by pair (goes.SetCookie text) same =
    elim (cases_Bool (is_later pair.consumer_node.consumer.copy.cookie text)) [
      | inl later ↦ rw later tt
      | inr good ↦ rw good ((refl, refl), tt)
    ]
given_by pair goes.CutIfBusy same = silent_given (asks.Cut pair.consumer_node.name) false refl (idle pair) (idle_silent false pair)
given_by pair (goes.Respec spec) same = absurd same

-- what each keeps
exchange_keeps : (exchange : Exchange) (pair : Agreement) → WantsTheSame exchange → AltersIn as_before pair (part_of exchange pair)
exchange_keeps (goes.Open mode) pair same = opens_keeps mode pair
exchange_keeps (goes.Send count) pair same = sent_keeps count pair
exchange_keeps (goes.Take count) pair same = takes_keeps count pair
exchange_keeps goes.Cut pair same = cut_keeps pair
exchange_keeps goes.Settle pair same = settles_keeps pair
exchange_keeps goes.LoseCookie pair same = loses_cookie_keeps pair
exchange_keeps (goes.SetCookie text) pair same = sets_cookie_keeps text pair
exchange_keeps goes.CutIfBusy pair same = idle_keeps pair
exchange_keeps (goes.Respec spec) pair same = absurd same

outcome_after : PartsKnown → PartsAreKept → (before : List Order) (order : Order) (said : List ReportLine) (state : WorldState) (f : ConsumerNode) (r : ProviderNode) (exchange : Exchange) (outcome : ExchangeOutcome) → WantsTheSame exchange → IsCalm order
    → GivenIn order outcome → consumer_nodes_by state.consumer_nodes f.name ≡ Some f → provider_nodes_by state.provider_nodes f.source ≡ Some r → part_of exchange (agreement_of r.provider f (lineage_of state r)) ≡ outcome
    → AltersIn as_before (agreement_of r.provider f (lineage_of state r)) outcome → Tracks before said state → After before said order (with_outcome state outcome)
outcome_after known parts before order said state f r exchange (Err cause) same calm gives e e' p keeps is = tt
outcome_after known parts before order said state f r exchange (Ok next) same calm gives e e' p keeps is =
    by (with_outcome state (Ok next)) (outcome_through known as_before before order said state f r next.0 next.1 gives e e' (done_kept number suffix pair next.0 next.1 (known_of f.name said) kept keeps) keeps is)
  where
    pair : Agreement
    pair = agreement_of r.provider f (lineage_of state r)

    number : ℕ
    number = r.provider.directory.history

    suffix : List (List TypeAndValue)
    suffix = r.provider.directory.suffix

    kept : IsKept number suffix pair next.0 next.1 (known_of f.name said)
    kept =
        parts number suffix pair next.0 next.1 (known_of f.name said) exchange same (is.feeds.sources f.source r e') (fed_by said state.nodes state.provider_nodes f.source r f e' refl (is.feeds.consumer_nodes f.name f e))
        (room_of state.provider_nodes state.consumer_nodes f.source r f e' (omega (arith, is.feeds.counted, is.feeds.few)) is.feeds.owned) p

    g : ConsumerNode
    g = next.0.consumer_node

    follows : Some (following f.source f.consumer.spec f.consumer.reload) ≡ Some (following g.source g.consumer.spec g.consumer.reload)
    follows =
        ap (λ s. Some (following s f.consumer.spec f.consumer.reload)) (sym keeps.source) ∙ ap (λ s. Some (following g.source s f.consumer.reload)) (sym keeps.spec)
        ∙ ap (λ b. Some (following g.source g.consumer.spec b)) (sym keeps.reload)

    by : (step' : StepOutcome) → ThroughIn before order said state f g step' → After before said order step'
    by (Err cause) through = tt
    by (Ok last) through = (
      record {
        orders =
            orders_asked before order state last.0 f.name f g calm.quiet (record { others = λ other now apart. calm.same other now }) (calm.same f.name (Some (following f.source f.consumer.spec f.consumer.reload)) ∙ follows) through.clock through.nodes e
            through.changed through.provider_nodes is.orders;
        feeds = through.feeds;
        commits = through.commits;
      },
      through.right,
    )

-- what holds of the nodes holds after an order for a consumer that wants what it wanted
pub exchange_after : PartsKnown → PartsAreKept → (before : List Order) (said : List ReportLine) (state : WorldState) (name : List ℕ) (what : Exchange) → WantsTheSame what → Tracks before said state
    → After before said (asked_by name what) (exchange state name (part_of what))
exchange_after known parts before said state name what same is =
    lookup.exchanged (λ n. After before said (asked_by n what)) (λ n cause. tt) state name (part_of what) (λ f r e there.
    let pair = agreement_of r.provider f (lineage_of state r) in
    outcome_after known parts before (asked_by f.name what) said state f r what (part_of what pair) same (calm_by f.name what same) (given_by pair what same) e there refl (exchange_keeps what pair same) is)
