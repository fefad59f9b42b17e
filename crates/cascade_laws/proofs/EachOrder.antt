-- Each order keeps what holds of the nodes, and reports lines that are right, by what is known of providers and consumers.
use Rattle.std.proofs.Common.{◌≡◌, ℕ, Option, Some, None, List, [], ◌∷◌, ◌++◌, refl, sym, subst, ◌∙◌, arith, append-nil, append_assoc}
use Rattle.std.proofs.lemmas.List.Sums.{fold-append}
use Rattle.std.proofs.lemmas.Option.{none-some}
use Rattle.sync_messages.specs.declared.request.Mode.TheVariants.{RefreshOnly, RefreshAndPersist}
use Rattle.entry_tree.specs.declared.entry.Entry.{Entry}
use Rattle.sync_wire.proofs.Servable.{SelectedCanBeServed}
use Rattle.directory_writes.specs.Directory.{entries_of}
use Rattle.directory_writes.proofs.Promised.{PromisesLast}
use Rattle.cascade_exchange.specs.declared.exchange.Exchange.TheVariants as goes
use Rattle.cascade_nodes.specs.declared.node.ProviderNode.{ProviderNode}
use Rattle.cascade_nodes.specs.declared.node.ConsumerNode.{ConsumerNode}
use Rattle.cascade_laws.specs.Headline.{is_declaration, IsShown, LinesAreRight}
use Rattle.cascade_script.specs.Orders.{Order}
use Rattle.cascade_script.specs.Orders.{Order as asks}
use Rattle.cascade_script.specs.Reader.{ScriptReader}
use Rattle.cascade_world.specs.ReportLines.{ReportLine}
use Rattle.cascade_world.specs.ReportLines.ReportLine.{Clocked, Shown}
use Rattle.cascade_laws.specs.Run.{Runs}
use Rattle.cascade_world.specs.Trace.{all_lines}
use Rattle.cascade_world.specs.World.{WorldState, no_nodes, step, provider_node_named, consumer_node_named, write_to, shown_of, show_of}
use Rattle.cascade_laws.proofs.Accepted.{time_from-push}
use Rattle.cascade_laws.proofs.Declarations.{provider_after, consumer_after, replica_after}
use Rattle.cascade_laws.proofs.Exchanges.{After, exchange_after}
use Rattle.cascade_laws.proofs.Exchanges as exchanges
use Rattle.cascade_laws.proofs.Feeding.{PartsAreKept, RespecsAreKept, IdlesRest, RestsAreFed, RestIsFed, FreshIsSource, WritesAreKept, LimitsAreKept, QueuesAreKept, CommitsAreKept}
use Rattle.cascade_world.proofs.Finding.{provider_nodes_by}
use Rattle.cascade_world.proofs.Found as lookup
use Rattle.cascade_world.proofs.Traced.{AreReported, ReportedAfter, step_reported_after}
use Rattle.cascade_laws.proofs.Growing.{count_same, feeds_more, committers_more}
use Rattle.cascade_laws.proofs.Ordered.{IsQuiet, all_still, provider_nodes_still, consumers_still, strangers_still, orders_quiet}
use Rattle.cascade_laws.proofs.Repointed.{Pointing, repoint_after, respec_after}
use Rattle.cascade_laws.proofs.Saying.{IsLeft, left_by_one, left_clocked, left_shown, time_reported, clock_more}
use Rattle.cascade_laws.proofs.Reporting.{provider_node_shown, copy_shown}
use Rattle.cascade_laws.proofs.Tracking.{Tracks}
use Rattle.cascade_laws.proofs.Written.{write_after, log_after, queue_after}

-- what is known of providers and of what they feed their consumers
pub record OrderKnown : Type 0 where
  pub rest : RestIsFed
  pub fresh : FreshIsSource
  pub writes : WritesAreKept
  pub limits : LimitsAreKept
  pub queues : QueuesAreKept
  pub parts : PartsAreKept
  pub respecs : RespecsAreKept
  pub idles : IdlesRest
  pub rests : RestsAreFed
  pub commits : CommitsAreKept
  pub lasts : PromisesLast
  pub selected : SelectedCanBeServed

exchanging : OrderKnown → exchanges.PartsKnown
exchanging known = record { lasts = known.lasts; selected = known.selected; commits = known.commits }

pointing : OrderKnown → Pointing
pointing known = record { known = exchanging known; parts = known.parts; rests = known.rests; idles = known.idles }

-- ---- the clock

clock_after : (before : List Order) (said : List ReportLine) (state : WorldState) (time : ℕ) → Tracks before said state → After before said (asks.Clock time) (step state (asks.Clock time))
clock_after before said state time is =
    let order = asks.Clock time in
    let lines = Clocked time ∷ [] in
    let left : (name : List ℕ) → IsLeft name lines = λ name. left_by_one name (Clocked time) (left_clocked name time) in (
      record {
        orders = record {
          time = sym (time_from-push 0 before order);
          count = is.orders.count ∙ sym (count_same is_declaration before order refl);
          provider_nodes = provider_nodes_still before order state.provider_nodes state.provider_nodes (λ name. tt) (all_still (provider_nodes_by state.provider_nodes)) is.orders.provider_nodes;
          consumers = consumers_still before order state.consumer_nodes (λ name f e. refl) is.orders.consumers;
          strangers = strangers_still before order state.consumer_nodes (λ name e. refl) is.orders.strangers;
        };
        feeds = feeds_more said lines state time left (sym (fold-append time_reported 0 said lines)) is.feeds;
        commits = committers_more said lines state.provider_nodes left is.commits;
      },
      (refl, tt),
    )

-- ---- what is shown

shown_right : (before : List Order) (said : List ReportLine) (state : WorldState) (name : List ℕ) (provider_node : Option ProviderNode) (consumer_node : Option ConsumerNode) (entries : List Entry) → provider_node_named name state ≡ provider_node → consumer_node_named name state ≡ consumer_node
    → shown_of provider_node consumer_node ≡ Some entries → Tracks before said state → IsShown before said name entries
shown_right before said state name (Some provider_node) consumer_node entries r f e is =
    let same : entries_of provider_node.provider.directory ≡ entries = cc in
    subst (IsShown before said name) same (provider_node_shown before said state name provider_node r is)
shown_right before said state name None (Some consumer_node) entries r f e is =
    let same : consumer_node.consumer.copy.held ≡ entries = cc in
    subst (IsShown before said name) same (copy_shown before said state name consumer_node f is)
shown_right before said state name None None entries r f e is = cc

show_after : (before : List Order) (said : List ReportLine) (state : WorldState) (name : List ℕ) (entries : List Entry) → shown_of (provider_node_named name state) (consumer_node_named name state) ≡ Some entries → Tracks before said state
    → After before said (asks.Show name) (show_of state name (Some entries))
show_after before said state name entries e is =
    let order = asks.Show name in
    let lines = Shown name entries ∷ [] in
    let left : (other : List ℕ) → IsLeft other lines = λ other. left_by_one other (Shown name entries) (left_shown other name entries) in
    let quiet : IsQuiet order = record { still = λ t. refl; undeclared = refl; untouched = λ other. tt } in (
      record {
        orders = orders_quiet before order state state quiet (λ consumer now. refl) refl refl refl (all_still (provider_nodes_by state.provider_nodes)) is.orders;
        feeds = feeds_more said lines state state.clock left (is.feeds.clock ∙ sym (clock_more said lines (λ t. refl))) is.feeds;
        commits = committers_more said lines state.provider_nodes left is.commits;
      },
      (shown_right before said state name (provider_node_named name state) (consumer_node_named name state) entries refl refl e is, tt),
    )

-- ---- each order

step_after : OrderKnown → (before : List Order) (said : List ReportLine) (state : WorldState) (order : Order) → AreReported state said → Tracks before said state → After before said order (step state order)
step_after known before said state (asks.Provider name suffix) reported is = provider_after known.fresh before said state name suffix is
step_after known before said state (asks.Consumer name source search reload) reported is = consumer_after known.rest before said state name source search reload reported is
step_after known before said state (asks.Replica name source search reload) reported is = replica_after known.fresh known.rest before said state name source search reload reported is
step_after known before said state (asks.Clock time) reported is = clock_after before said state time is
step_after known before said state (asks.Write name change) reported is =
    lookup.if_found (After before said (asks.Write name change)) (write_to state name change) (provider_node_named name state) tt (λ r e. write_after known.lasts known.writes before said state name change r e is)
step_after known before said state (asks.OpenOnce name) reported is = exchange_after (exchanging known) known.parts before said state name (goes.Open RefreshOnly) tt is
step_after known before said state (asks.OpenStay name) reported is = exchange_after (exchanging known) known.parts before said state name (goes.Open RefreshAndPersist) tt is
step_after known before said state (asks.Send name count) reported is = exchange_after (exchanging known) known.parts before said state name (goes.Send count) tt is
step_after known before said state (asks.Take name count) reported is = exchange_after (exchanging known) known.parts before said state name (goes.Take count) tt is
step_after known before said state (asks.Cut name) reported is = exchange_after (exchanging known) known.parts before said state name goes.Cut tt is
step_after known before said state (asks.Settle name) reported is = exchange_after (exchanging known) known.parts before said state name goes.Settle tt is
step_after known before said state (asks.Lose name) reported is = exchange_after (exchanging known) known.parts before said state name goes.LoseCookie tt is
step_after known before said state (asks.Cookie name text) reported is = exchange_after (exchanging known) known.parts before said state name (goes.SetCookie text) tt is
step_after known before said state (asks.Repoint name source) reported is = repoint_after (pointing known) before said state name source is
step_after known before said state (asks.Respec name search) reported is = respec_after (exchanging known) known.respecs before said state name search is
step_after known before said state (asks.Log name limit) reported is = log_after known.lasts known.limits before said state name limit is
step_after known before said state (asks.Queue name limit) reported is = queue_after known.lasts known.queues before said state name limit is
step_after known before said state (asks.Show name) reported is =
    lookup.if_found (After before said (asks.Show name)) (show_of state name) (shown_of (provider_node_named name state) (consumer_node_named name state)) tt (λ entries e. show_after before said state name entries e is)

-- ---- runs

-- what a run reports is right, and what holds of the nodes holds at its end
pub record HasRun (before : List Order) (said : List ReportLine) (orders : List Order) (report : List (List ReportLine)) (end : WorldState) : Type 0 where
  pub right : LinesAreRight before said orders report
  pub tracked : Tracks (before ++ orders) (said ++ all_lines report) end

run_tracked : OrderKnown → (before : List Order) (said : List ReportLine) (state : WorldState) (reader : ScriptReader) (orders : List Order) (report : List (List ReportLine)) (end : WorldState) (rest : ScriptReader)
    → AreReported state said → Tracks before said state → Runs state reader orders report end rest → HasRun before said orders report end
run_tracked known before said state reader [] [] end rest reported is r =
    record { right = tt; tracked = subst (Tracks (before ++ []) (said ++ [])) r.0 (rw (append-nil before, append-nil said) is) }
run_tracked known before said state reader [] (t ∷ report) end rest reported is r = absurd r
run_tracked known before said state reader (o ∷ orders) [] end rest reported is r = absurd r
run_tracked known before said state reader (o ∷ orders) (t ∷ report) end rest reported is r =
    let next = subst (After before said o) r.4 (step_after known before said state o reported is) in
    let reported' : AreReported r.2 (said ++ t) = subst (ReportedAfter said) r.4 (step_reported_after said state o reported) in
    let more = run_tracked known (before ++ o ∷ []) (said ++ t) r.2 r.1 orders report end rest reported' next.0 r.5 in
    record {
      right = (next.1, more.right);
      tracked =
          subst (λ b. Tracks b (said ++ (t ++ all_lines report)) end) (append_assoc before (o ∷ []) orders)
          (subst (λ s. Tracks ((before ++ o ∷ []) ++ orders) s end) (append_assoc said t (all_lines report)) more.tracked);
    }

start_tracked : Tracks [] [] no_nodes
start_tracked = record {
  orders = record { time = refl; count = refl; provider_nodes = λ name provider_node e. absurd (none-some _ e); consumers = λ name f e. absurd (none-some _ e); strangers = λ name e. refl };
  feeds = record {
    clock = refl;
    few = omega arith;
    counted = omega arith;
    sources = λ name provider_node e. absurd (none-some _ e);
    numbered = record { within = λ name provider_node e. absurd (none-some _ e); apart = λ name other r s e e' same. absurd (none-some _ e) };
    consumer_nodes = λ name f e. absurd (none-some _ e);
    apart = λ name other f g e e' apart same. absurd (none-some _ e);
    owned = λ name provider_node e at s found. absurd (none-some _ e);
    manned = λ name provider_node e. absurd (none-some _ e);
    climbs = λ name. ([], name, (refl, refl));
    rooted = λ name. tt;
  };
  commits = λ name provider_node e. absurd (none-some _ e);
}

-- a run from no nodes
pub runs_tracked_by : OrderKnown → (reader : ScriptReader) (orders : List Order) (report : List (List ReportLine)) (end : WorldState) (rest : ScriptReader) → Runs no_nodes reader orders report end rest → HasRun [] [] orders report end
runs_tracked_by known reader orders report end rest r =
    run_tracked known [] [] no_nodes reader orders report end rest (record { apart = tt; of_nodes = tt; reported = tt }) start_tracked r
