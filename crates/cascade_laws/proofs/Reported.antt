-- Each order gives its lines, in whatever state it is done.
use Rattle.std.proofs.Common.{◌≡◌, ℕ, Some, None, List, [], ◌∷◌, ◌++◌, refl, subst}
use Rattle.std.specs.Prelude.{Result, Ok, Err}
use Rattle.entry_tree.specs.declared.entry.Entry.{Entry}
use Rattle.sync_messages.specs.declared.request.Mode.TheVariants.{RefreshOnly, RefreshAndPersist}
use Rattle.sync_provider.specs.Machine.{ProviderState, log_limited, queue_limited}
use Rattle.cascade_script.specs.declared.fault.Cause.{Cause}
use Rattle.cascade_script.specs.Orders.{Order}
use Rattle.cascade_script.specs.Orders.{Order as asks}
use Rattle.cascade_script.specs.Reader.{ScriptReader}
use Rattle.cascade_world.specs.Exchange.{Agreement, ExchangeOutcome, agreement_of, sent, takes, cut, idle, opens, settles, loses_cookie, sets_cookie, respecs}
use Rattle.cascade_world.specs.ReportLines.{ReportLine, stages_of}
use Rattle.cascade_world.specs.ReportLines.{ReportLine as reported}
use Rattle.cascade_world.specs.World.{WorldState, StepOutcome, no_nodes, provider_node_named, consumer_node_named, declare_root, new_consumer_node, with_consumer, with_replica, declare_consumer, declare_replica, write_to, limited, limit_log, limit_queue, with_pair, commits_of, with_lines, with_outcome, lineage_of, exchange, pointed_after, repoint, respec, shown_of, show_of, step}
use Rattle.cascade_world.proofs.Found as lookup
use Rattle.cascade_laws.specs.Headline.{EachReportsRight, LinesAreRight}
use Rattle.cascade_laws.specs.Reports.{IsSending, IsTaking, IsAtMost, AreUpTo, IsOpening, IsReportOf, AreReportsOf}
use Rattle.cascade_laws.specs.Run.{Runs}
use Rattle.cascade_laws.proofs.Answered.{settling_right}
use Rattle.cascade_laws.proofs.Gives.{PartGives, GivesAll, HasSettled, IsCutting, IsHolding, IsRespeccing, sent_gives, takes_gives, cut_gives, idle_gives, opens_gives, settles_gives, loses_cookie_gives, sets_cookie_gives, respecs_gives}
use Rattle.cascade_laws.proofs.HeadlineHolds.{runs_lines_right}

-- a step that is done reports such lines
abbrev Reports : (List ReportLine → Type 0) → StepOutcome → Type 0
Reports P (Ok next) = P next.1
Reports P (Err cause) = Unit {0}

abbrev IsSilence : List ReportLine → Type 0
IsSilence lines = lines ≡ []

-- ---- providers

abbrev IsWriting : List ℕ → List ReportLine → Type 0
IsWriting name lines = (code : ℕ) × (writes : ℕ) × (lines ≡ reported.Wrote name code writes ∷ [])

limited_reports : (state : WorldState) (name : List ℕ) (change : ProviderState → ProviderState) → Reports IsSilence (limited state name change (provider_node_named name state))
limited_reports state name change = lookup.if_found (Reports IsSilence) (limited state name change) (provider_node_named name state) tt (λ r e. refl)

-- ---- consumers

lines_report : (P : List ReportLine → Type 0) (lines : List ReportLine) (committed : Result WorldState Cause) → P lines → Reports P (with_lines lines committed)
lines_report P lines (Ok state) h = h
lines_report P lines (Err cause) h = tt

outcome_reports : (P : List ReportLine → Type 0) (state : WorldState) (name : List ℕ) (outcome : ExchangeOutcome) → PartGives name P outcome → Reports P (with_outcome state outcome)
outcome_reports P state name (Ok next) h = lines_report P next.1 (commits_of (with_pair state next.0) next.0.consumer_node (stages_of next.1)) h.1
outcome_reports P state name (Err cause) h = tt

exchange_reports : (P : List ℕ → List ReportLine → Type 0) (state : WorldState) (name : List ℕ) (part : Agreement → ExchangeOutcome) → GivesAll P part → Reports (P name) (exchange state name part)
exchange_reports P state name part gives =
    lookup.exchanged (λ n. Reports (P n)) (λ n cause. tt) state name part (λ f r e there.
    let pair = agreement_of r.provider f (lineage_of state r) in outcome_reports (P f.name) state f.name (part pair) (gives f.name pair refl))

pointed_reports : (P : List ReportLine → Type 0) (name source : List ℕ) (done : StepOutcome) → Reports P done → Reports P (pointed_after name source done)
pointed_reports P name source (Ok next) h = h
pointed_reports P name source (Err cause) h = tt

abbrev IsShowing : List ℕ → List ReportLine → Type 0
IsShowing name lines = (entries : List Entry) × (lines ≡ reported.Shown name entries ∷ [])

-- ---- each order

-- where these lines are right, they are those of the order
abbrev IsReportIfRight : Order → List ReportLine → Type 0
IsReportIfRight order lines = (before : List Order) (said : List ReportLine) → EachReportsRight before order said lines → IsReportOf order lines

anyhow : (P : List ReportLine → Type 0) (order : Order) (done : StepOutcome) → ((lines : List ReportLine) → P lines → IsReportOf order lines) → Reports P done → Reports (IsReportIfRight order) done
anyhow P order (Ok next) turns h = λ before said right. turns next.1 h
anyhow P order (Err cause) turns h = tt

settled_reports : (name : List ℕ) (done : StepOutcome) → Reports (HasSettled name) done → Reports (IsReportIfRight (asks.Settle name)) done
settled_reports name (Ok next) h = λ before said right. settling_right before name said next.1 h right
settled_reports name (Err cause) h = tt

exchanged_reports : (P : List ℕ → List ReportLine → Type 0) (order : Order) (state : WorldState) (name : List ℕ) (part : Agreement → ExchangeOutcome) → ((lines : List ReportLine) → P name lines → IsReportOf order lines) → GivesAll P part
    → Reports (IsReportIfRight order) (exchange state name part)
exchanged_reports P order state name part turns gives = anyhow (P name) order (exchange state name part) turns (exchange_reports P state name part gives)

order_reports : (state : WorldState) (order : Order) → Reports (IsReportIfRight order) (step state order)
order_reports state (asks.Provider name suffix) =
    anyhow IsSilence (asks.Provider name suffix) (declare_root state name suffix) (λ lines h. h) (lookup.root_declared (Reports IsSilence) (λ cause. tt) state name suffix (λ new room. refl))
order_reports state (asks.Consumer name source search reload) =
    anyhow IsSilence (asks.Consumer name source search reload) (declare_consumer state name source search reload) (λ lines h. h)
    (lookup.consumer_declared (Reports IsSilence) (λ cause. tt) state name source search (with_consumer state (new_consumer_node name source search reload)) (λ new r there inside room. refl))
order_reports state (asks.Replica name source search reload) =
    anyhow IsSilence (asks.Replica name source search reload) (declare_replica state name source search reload) (λ lines h. h)
    (lookup.consumer_declared (Reports IsSilence) (λ cause. tt) state name source search (with_replica state (new_consumer_node name source search reload)) (λ new r there inside room. refl))
order_reports state (asks.Clock time) = λ before said right. refl
order_reports state (asks.Write name change) =
    let found = provider_node_named name state in
    anyhow (IsWriting name) (asks.Write name change) (write_to state name change found) (λ lines h. h) (lookup.if_found (Reports (IsWriting name)) (write_to state name change) found tt (λ r e. (_, _, refl)))
order_reports state (asks.OpenOnce name) = exchanged_reports IsOpening (asks.OpenOnce name) state name (opens RefreshOnly) (λ lines h. h) (opens_gives RefreshOnly)
order_reports state (asks.OpenStay name) = exchanged_reports IsOpening (asks.OpenStay name) state name (opens RefreshAndPersist) (λ lines h. h) (opens_gives RefreshAndPersist)
order_reports state (asks.Send name count) = exchanged_reports (λ n. AreUpTo count n (IsSending n)) (asks.Send name count) state name (sent count) (λ lines h. h) (sent_gives count)
order_reports state (asks.Take name count) = exchanged_reports (λ n. AreUpTo count n (IsTaking n)) (asks.Take name count) state name (takes count) (λ lines h. h) (takes_gives count)
order_reports state (asks.Cut name) = exchanged_reports IsCutting (asks.Cut name) state name cut (λ lines h. h) cut_gives
order_reports state (asks.Settle name) = settled_reports name (exchange state name settles) (exchange_reports HasSettled state name settles settles_gives)
order_reports state (asks.Lose name) = exchanged_reports (IsHolding None) (asks.Lose name) state name loses_cookie (λ lines h. h) loses_cookie_gives
order_reports state (asks.Cookie name text) = exchanged_reports (IsHolding (Some text)) (asks.Cookie name text) state name (sets_cookie text) (λ lines h. h) (sets_cookie_gives text)
order_reports state (asks.Repoint name source) =
    anyhow (IsAtMost (reported.Cut name)) (asks.Repoint name source) (repoint state name source) (λ lines h. h)
    (lookup.repointed (λ n. Reports (IsAtMost (reported.Cut n))) (λ n cause. tt) state name source (λ f s e there free inside.
    pointed_reports (IsAtMost (reported.Cut f.name)) f.name source (exchange state f.name idle) (exchange_reports (λ n. IsAtMost (reported.Cut n)) state f.name idle idle_gives)))
order_reports state (asks.Respec name search) =
    anyhow (IsRespeccing name) (asks.Respec name search) (respec state name search) (λ lines h. h)
    (lookup.respecced (λ n. Reports (IsRespeccing n)) (λ n cause. tt) state name search (λ f r e there inside. exchange_reports IsRespeccing state f.name (respecs search) (respecs_gives search)))
order_reports state (asks.Log name limit) = anyhow IsSilence (asks.Log name limit) (limit_log state name limit) (λ lines h. h) (limited_reports state name (λ provider. log_limited provider limit))
order_reports state (asks.Queue name limit) = anyhow IsSilence (asks.Queue name limit) (limit_queue state name limit) (λ lines h. h) (limited_reports state name (λ provider. queue_limited provider limit))
order_reports state (asks.Show name) =
    let found = shown_of (provider_node_named name state) (consumer_node_named name state) in
    anyhow (IsShowing name) (asks.Show name) (show_of state name found) (λ lines h. h) (lookup.if_found (Reports (IsShowing name)) (show_of state name) found tt (λ entries e. (entries, refl)))

-- ---- runs

reported_by : (before : List Order) (said : List ReportLine) (state : WorldState) (reader : ScriptReader) (orders : List Order) (report : List (List ReportLine)) (end : WorldState) (rest : ScriptReader)
    → Runs state reader orders report end rest → LinesAreRight before said orders report → AreReportsOf orders report
reported_by before said state reader [] [] end rest r right = tt
reported_by before said state reader [] (t ∷ report) end rest r right = absurd r
reported_by before said state reader (o ∷ orders) [] end rest r right = absurd r
reported_by before said state reader (o ∷ orders) (t ∷ report) end rest r right =
    let one : IsReportIfRight o t = subst (Reports (IsReportIfRight o)) r.4 (order_reports state o) in
    (one before said right.0, reported_by (before ++ o ∷ []) (said ++ t) r.2 r.1 orders report end rest r.5 right.1)

-- each order of a run from no nodes gives its lines
pub runs_reported : (reader : ScriptReader) (orders : List Order) (report : List (List ReportLine)) (end : WorldState) (rest : ScriptReader) → Runs no_nodes reader orders report end rest → AreReportsOf orders report
runs_reported reader orders report end rest r = reported_by [] [] no_nodes reader orders report end rest r (runs_lines_right reader orders report end rest r)
