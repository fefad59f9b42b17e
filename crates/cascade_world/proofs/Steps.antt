-- Steps of the world, by the places of its nodes.
use Rattle.std.proofs.Common.{◌≡◌, ℕ, ◌<◌, Some, None, List, [], length, set, get_or, refl, ap, sym, subst, ◌∙◌}
use Rattle.std.specs.Prelude.{Result, Ok, Err, IfSome, OnErr, position, slice_get}
use Rattle.std.proofs.lemmas.Option.{slice_get-get_or, get_or_from_slice_get}
use Rattle.std.proofs.lemmas.List.{set-get_or}
use Rattle.schema_rules.specs.declared.raw.Change.{Change}
use Rattle.sync_provider.specs.Machine.{ProviderState, log_limited, queue_limited}
use Rattle.cascade_script.specs.declared.fault.Cause.{Cause}
use Rattle.cascade_script.specs.declared.fault.Cause.TheVariants.{BadCommand, UnknownNode, NameTaken, BadRecord, LimitReached, OutsideSuffix, LaterCookie, Circle, NoMemory}
use Rattle.cascade_nodes.specs.declared.node.ProviderNode.{ProviderNode}
use Rattle.cascade_nodes.specs.declared.node.ConsumerNode.{ConsumerNode}
use Rattle.cascade_exchange.specs.declared.exchange.Exchange.{Exchange}
use Rattle.cascade_exchange.specs.declared.exchange.Performed.{Performed}
use Rattle.cascade_exchange.specs.Exchange.{Agreement, ExchangeOutcome, agreement_of, part_of}
use Rattle.cascade_nodes.specs.Commits.{Leaves}
use Rattle.cascade_script.specs.Fault.{RefusedAt}
use Rattle.cascade_exchange.specs.Parts.{Performs}
use Rattle.cascade_report.specs.Origins.{Lineage}
use Rattle.cascade_world.specs.InStep.{AreInStep, OwnCanCommit}
use Rattle.cascade_world.specs.Places.{ArePlaces, placed, PerformsAt, Writes}
use Rattle.cascade_report.specs.ReportLines.{stages_of}
use Rattle.cascade_world.specs.World.{WorldState, StepOutcome, DoesStep, IsStep, is_provider_node, is_consumer_node, provider_node_named, consumer_node_named, with_provider, with_consumer_node, with_pair, with_lines, with_outcome, commits_of, lineage_of, between, exchange_of, exchange, write_to, limited, limit_log, limit_queue}
use Rattle.cascade_exchange.proofs.Carrying.{IsCarried, CarriedIn, part_carried}
use Rattle.cascade_exchange.proofs.Exchanging.{Alters, AltersIn, wants_of, part_alters}
use Rattle.cascade_world.proofs.AtPlaces.{consumer_after}
use Rattle.cascade_world.proofs.Keeping.{can_commit}
use Rattle.cascade_world.proofs.OwnCommits.{commits_none}
use Rattle.cascade_world.proofs.Places.{position_is, found_at, changed_at}
use Rattle.cascade_world.proofs.Finding.{consumer_node_name}
use Rattle.entry_tree.proofs.Replacing.{find_no_place}

-- ---- places

-- an exchange of no consumer is refused
pub no_consumer_node : (state : WorldState) (name : List ℕ) → position (is_consumer_node name) state.consumer_nodes ≡ None → (part : Agreement → ExchangeOutcome) → exchange state name part ≡ Err UnknownNode
no_consumer_node state name e part = ap (exchange_of state part) (find_no_place (is_consumer_node name) state.consumer_nodes e)

-- an exchange of a consumer without a provider is refused
pub no_provider : (state : WorldState) (name : List ℕ) (i : ℕ) (f : ConsumerNode) → position (is_consumer_node name) state.consumer_nodes ≡ Some i → f ≡ get_or state.consumer_nodes i f → position (is_provider_node f.source) state.provider_nodes ≡ None
    → (part : Agreement → ExchangeOutcome) → exchange state name part ≡ Err UnknownNode
no_provider state name i f e is none part =
    ap (exchange_of state part) (found_at (is_consumer_node name) state.consumer_nodes i f e is) ∙ ap (between state f part) (find_no_place (is_provider_node f.source) state.provider_nodes none)

-- the places of a consumer node and of its provider node
pub are_places : (state : WorldState) (name : List ℕ) (j i : ℕ) (f : ConsumerNode) → position (is_consumer_node name) state.consumer_nodes ≡ Some i → f ≡ get_or state.consumer_nodes i f → position (is_provider_node f.source) state.provider_nodes ≡ Some j
    → ArePlaces state name (j, i)
are_places state name j i f e is provider_node = record {
  consumer_node = f;
  at_consumer_node = e;
  follows = slice_get-get_or state.consumer_nodes i f (position_is (is_consumer_node name) state.consumer_nodes i e).1 ∙ ap Some (sym is);
  at_provider_node = provider_node;
}

-- ---- what goes on between a consumer and its provider

record Between (state : WorldState) (name : List ℕ) (j i : ℕ) (r : ProviderNode) (f : ConsumerNode) : Type 0 where
  pub found : consumer_node_named name state ≡ Some f
  pub supplied : provider_node_named f.source state ≡ Some r
  pub at_consumer_node : position (is_consumer_node name) state.consumer_nodes ≡ Some i
  pub consumer_node_is : f ≡ get_or state.consumer_nodes i f
  pub at_provider_node : position (is_provider_node f.source) state.provider_nodes ≡ Some j
  pub provider_node_is : r ≡ get_or state.provider_nodes j r

between_of : (state : WorldState) (name : List ℕ) (j i : ℕ) (r : ProviderNode) (f : ConsumerNode) → ArePlaces state name (j, i) → slice_get state.consumer_nodes i ≡ Some f → slice_get state.provider_nodes j ≡ Some r
    → Between state name j i r f
between_of state name j i r f places at_f at_r =
    let both : Some places.consumer_node ≡ Some f = sym places.follows ∙ at_f in
    let same : places.consumer_node ≡ f = cc in
    let provider_node : position (is_provider_node f.source) state.provider_nodes ≡ Some j = subst (λ (g : ConsumerNode). position (is_provider_node g.source) state.provider_nodes ≡ Some j) same places.at_provider_node in
    let fis = sym (get_or_from_slice_get state.consumer_nodes i f f at_f) in
    let ris = sym (get_or_from_slice_get state.provider_nodes j r r at_r) in
    record {
      found = found_at (is_consumer_node name) state.consumer_nodes i f places.at_consumer_node fis;
      supplied = found_at (is_provider_node f.source) state.provider_nodes j r provider_node ris;
      at_consumer_node = places.at_consumer_node;
      consumer_node_is = fis;
      at_provider_node = provider_node;
      provider_node_is = ris;
    }

abbrev pair_at : WorldState → ProviderNode → ConsumerNode → Agreement
pair_at state r f = agreement_of r.provider f (lineage_of state r)

exchange_is : (state : WorldState) (name : List ℕ) (j i : ℕ) (r : ProviderNode) (f : ConsumerNode) (part : Agreement → ExchangeOutcome) → Between state name j i r f → exchange state name part ≡ with_outcome state (part (pair_at state r f))
exchange_is state name j i r f part is = ap (exchange_of state part) is.found ∙ ap (between state f part) is.supplied

-- the state after an exchange, whose consumer has its name and its provider
placed_is : (state : WorldState) (name : List ℕ) (j i : ℕ) (r : ProviderNode) (f f' : ConsumerNode) (p' : ProviderState) (lin : Lineage) → Between state name j i r f → f'.name ≡ f.name → f'.source ≡ f.source
    → placed state j i r p' f' ≡ with_pair state (agreement_of p' f' lin)
placed_is state name j i r f f' p' lin is named' sourced =
    let named : name ≡ f'.name = consumer_node_name state.consumer_nodes name f is.found ∙ sym named' in
    let provider_nodes : set state.provider_nodes j (record r { provider = p' }) ≡ with_provider f'.source p' state.provider_nodes =
    changed_at state.provider_nodes (is_provider_node f.source) (λ (provider_node : ProviderNode). record provider_node { provider = p' }) j r is.at_provider_node is.provider_node_is ∙ ap (λ s. with_provider s p' state.provider_nodes) (sym sourced) in
    let consumer_nodes : set state.consumer_nodes i f' ≡ with_consumer_node f'.name f' state.consumer_nodes =
    changed_at state.consumer_nodes (is_consumer_node name) (λ (g : ConsumerNode). f') i f is.at_consumer_node is.consumer_node_is ∙ ap (λ n. with_consumer_node n f' state.consumer_nodes) named in
    λ k. record state { provider_nodes = provider_nodes k; consumer_nodes = consumer_nodes k }

-- what is done, and then committed
exchange_committed : (state mid : WorldState) (name : List ℕ) (j i : ℕ) (what : Exchange) (done : Performed) → ArePlaces state name (j, i) → (at : PerformsAt state j i (part_of what) mid (Ok done))
    → exchange state name (part_of what) ≡ with_lines at.does.0 (commits_of mid at.consumer done.stages.items)
exchange_committed state mid name j i what done places at =
    let is = between_of state name j i at.provider_node at.consumer_node places at.at_consumer_node at.at_provider_node in
    let pair = pair_at state at.provider_node at.consumer_node in
    let lin = lineage_of state at.provider_node in
    let kept : Alters (wants_of what) pair (agreement_of at.provider at.consumer lin) at.does.0 = subst (AltersIn (wants_of what) pair) at.does.1 (part_alters what pair) in
    let mid_is : mid ≡ with_pair state (agreement_of at.provider at.consumer lin) = at.after ∙ placed_is state name j i at.provider_node at.consumer_node at.consumer at.provider lin is kept.name kept.source in
    let commits : commits_of (with_pair state (agreement_of at.provider at.consumer lin)) at.consumer (stages_of at.does.0) ≡ commits_of mid at.consumer done.stages.items =
    ap (λ s. commits_of s at.consumer (stages_of at.does.0)) (sym mid_is) ∙ ap (commits_of mid at.consumer) (sym at.does.3) in
    exchange_is state name j i at.provider_node at.consumer_node (part_of what) is ∙ ap (with_outcome state) at.does.1 ∙ ap (with_lines at.does.0) commits

-- where the commits are done too
pub exchange_done : (state mid new : WorldState) (name : List ℕ) (j i : ℕ) (what : Exchange) (done : Performed) → ArePlaces state name (j, i) → (at : PerformsAt state j i (part_of what) mid (Ok done))
    → commits_of mid at.consumer done.stages.items ≡ Ok new → DoesStep (exchange state name (part_of what)) new (Ok done.text.items)
exchange_done state mid new name j i what done places at commits =
    subst (λ s. IsStep s new done.text.items) (sym (exchange_committed state mid name j i what done places at ∙ ap (with_lines at.does.0) commits)) (refl, at.does.2)

-- what can be committed then
pub exchange_can : (state mid : WorldState) (j i : ℕ) (what : Exchange) (done : Performed) → AreInStep state → ((name : List ℕ) × ArePlaces state name (j, i)) → (at : PerformsAt state j i (part_of what) mid (Ok done))
    → i < length state.consumer_nodes → IfSome (slice_get mid.consumer_nodes i) (OwnCanCommit mid done.stages.items)
exchange_can state mid j i what done steady stand at low =
    let is = between_of state stand.0 j i at.provider_node at.consumer_node stand.1 at.at_consumer_node at.at_provider_node in
    let pair = pair_at state at.provider_node at.consumer_node in
    let lin = lineage_of state at.provider_node in
    let next = agreement_of at.provider at.consumer lin in
    let kept : Alters (wants_of what) pair next at.does.0 = subst (AltersIn (wants_of what) pair) at.does.1 (part_alters what pair) in
    let carried : IsCarried pair next at.does.0 = subst (CarriedIn pair) at.does.1 (part_carried what pair) in
    let mid_is : mid ≡ with_pair state next = at.after ∙ placed_is state stand.0 j i at.provider_node at.consumer_node at.consumer at.provider lin is kept.name kept.source in
    let can : OwnCanCommit (with_pair state next) (stages_of at.does.0) at.consumer = can_commit state stand.0 at.consumer_node at.provider_node is.found is.supplied next at.does.0 carried (wants_of what) kept steady in
    subst (λ found. IfSome found (OwnCanCommit mid done.stages.items)) (sym (consumer_after state mid j i (part_of what) (Ok done) at low))
    (subst (λ (s : WorldState). OwnCanCommit s done.stages.items at.consumer) (sym mid_is) (subst (λ stages. OwnCanCommit (with_pair state next) stages at.consumer) (sym at.does.3) can))

-- a commit that is refused refuses the event
pub exchange_uncommitted : (state mid new : WorldState) (name : List ℕ) (j i : ℕ) (what : Exchange) (done : Performed) (cause : Cause) → ArePlaces state name (j, i) → (at : PerformsAt state j i (part_of what) mid (Ok done))
    → commits_of mid at.consumer done.stages.items ≡ Err cause → exchange state name (part_of what) ≡ Err cause
exchange_uncommitted state mid new name j i what done cause places at commits = exchange_committed state mid name j i what done places at ∙ ap (with_lines at.does.0) commits

-- where no stage took effect, nothing is committed
pub exchange_through : (state mid : WorldState) (name : List ℕ) (j i : ℕ) (what : Exchange) (done : Performed) → ArePlaces state name (j, i) → PerformsAt state j i (part_of what) mid (Ok done) → done.stages.items ≡ []
    → DoesStep (exchange state name (part_of what)) mid (Ok done.text.items)
exchange_through state mid name j i what done places at none =
    exchange_done state mid mid name j i what done places at (ap (commits_of mid at.consumer) none ∙ commits_none mid at.consumer)

-- a refused commit, out of memory among the refusals
pub exchange_stopped : (state mid left new : WorldState) (name : List ℕ) (j i : ℕ) (what : Exchange) (done : Performed) (cause : Cause) → ArePlaces state name (j, i) → (at : PerformsAt state j i (part_of what) mid (Ok done))
    → Leaves (commits_of mid at.consumer done.stages.items) left (Err cause) → DoesStep (exchange state name (part_of what)) new (Err cause)
exchange_stopped state mid left new name j i what done BadCommand places at h = exchange_uncommitted state mid new name j i what done BadCommand places at h
exchange_stopped state mid left new name j i what done UnknownNode places at h = exchange_uncommitted state mid new name j i what done UnknownNode places at h
exchange_stopped state mid left new name j i what done NameTaken places at h = exchange_uncommitted state mid new name j i what done NameTaken places at h
exchange_stopped state mid left new name j i what done BadRecord places at h = exchange_uncommitted state mid new name j i what done BadRecord places at h
exchange_stopped state mid left new name j i what done (LimitReached number) places at h = exchange_uncommitted state mid new name j i what done (LimitReached number) places at h
exchange_stopped state mid left new name j i what done OutsideSuffix places at h = exchange_uncommitted state mid new name j i what done OutsideSuffix places at h
exchange_stopped state mid left new name j i what done (LaterCookie held given) places at h = exchange_uncommitted state mid new name j i what done (LaterCookie held given) places at h
exchange_stopped state mid left new name j i what done Circle places at h = exchange_uncommitted state mid new name j i what done Circle places at h
exchange_stopped state mid left new name j i what done NoMemory places at h = tt

-- a part that is refused
pub exchange_refused : (state mid new : WorldState) (name : List ℕ) (j i : ℕ) (what : Exchange) (cause : Cause) → ArePlaces state name (j, i) → PerformsAt state j i (part_of what) mid (Err cause)
    → DoesStep (exchange state name (part_of what)) new (Err cause)
exchange_refused state mid new name j i what cause places at = by cause at.does
  where
    is : Between state name j i at.provider_node at.consumer_node
    is = between_of state name j i at.provider_node at.consumer_node places at.at_consumer_node at.at_provider_node

    seen : (c : Cause) → part_of what (pair_at state at.provider_node at.consumer_node) ≡ Err c → exchange state name (part_of what) ≡ Err c
    seen c h = exchange_is state name j i at.provider_node at.consumer_node (part_of what) is ∙ ap (with_outcome state) h

    by : (c : Cause) → Performs (part_of what (pair_at state at.provider_node at.consumer_node)) (agreement_of at.provider at.consumer (lineage_of state at.provider_node)) (Err c) → DoesStep (exchange state name (part_of what)) new (Err c)
    by BadCommand h = seen BadCommand h
    by UnknownNode h = seen UnknownNode h
    by NameTaken h = seen NameTaken h
    by BadRecord h = seen BadRecord h
    by (LimitReached number) h = seen (LimitReached number) h
    by OutsideSuffix h = seen OutsideSuffix h
    by (LaterCookie held given) h = seen (LaterCookie held given) h
    by Circle h = seen Circle h
    by NoMemory h = tt

-- an order for a consumer that is not there
pub nowhere : (state new : WorldState) (name : List ℕ) (part : Agreement → ExchangeOutcome) (cause : Cause) → cause ≡ UnknownNode → ((part : Agreement → ExchangeOutcome) → exchange state name part ≡ Err UnknownNode) → DoesStep (exchange state name part) new (Err cause)
nowhere state new name part cause e h = subst (λ c. DoesStep (exchange state name part) new (Err c)) (sym e) (h part)

-- ---- writes

-- a write to no provider is refused
pub no_provider_node : (state new : WorldState) (name : List ℕ) (change : Change) → position (is_provider_node name) state.provider_nodes ≡ None → DoesStep (write_to state name change (provider_node_named name state)) new (Err UnknownNode)
no_provider_node state new name change e = ap (write_to state name change) (find_no_place (is_provider_node name) state.provider_nodes e)

-- the state where the provider at this place is now this
abbrev supplied : WorldState → ℕ → ProviderNode → ProviderState → WorldState
supplied state i r p' = record state { provider_nodes = set state.provider_nodes i (record r { provider = p' }) }

write_ok : (state : WorldState) (name : List ℕ) (change : Change) (i : ℕ) (r : ProviderNode) (p' : ProviderState) (text : List ℕ) → position (is_provider_node name) state.provider_nodes ≡ Some i → r ≡ get_or state.provider_nodes i r
    → Writes r.provider name state.clock change p' (Ok text) → DoesStep (write_to state name change (provider_node_named name state)) (supplied state i r p') (Ok text)
write_ok state name change i r p' text e is h =
    let found : provider_node_named name state ≡ Some r = found_at (is_provider_node name) state.provider_nodes i r e is in
    let provider_nodes : set state.provider_nodes i (record r { provider = p' }) ≡ with_provider name p' state.provider_nodes = changed_at state.provider_nodes (is_provider_node name) (λ (provider_node : ProviderNode). record provider_node { provider = p' }) i r e is in
    subst (λ o. IsStep (write_to state name change o) (supplied state i r p') text) (sym found)
    (ap (λ rs. record state { provider_nodes = rs }) provider_nodes ∙ ap (λ q. record state { provider_nodes = with_provider name q state.provider_nodes }) h.0, h.1)

write_does : (state : WorldState) (name : List ℕ) (change : Change) (i : ℕ) (r : ProviderNode) (p' : ProviderState) (result : Result (List ℕ) Cause) → position (is_provider_node name) state.provider_nodes ≡ Some i → r ≡ get_or state.provider_nodes i r
    → Writes r.provider name state.clock change p' result → DoesStep (write_to state name change (provider_node_named name state)) (supplied state i r p') result
write_does state name change i r p' (Ok text) e is h = write_ok state name change i r p' text e is h
write_does state name change i r p' (Err cause) e is h = subst (λ c. DoesStep (write_to state name change (provider_node_named name state)) (supplied state i r p') (Err c)) (sym h.0) tt

-- the same of the parts of the code, which sees the state
pub write_seen : (state view : WorldState) (name spelled : List ℕ) (change : Change) (i : ℕ) (r : ProviderNode) (p' : ProviderState) (result : Result (List ℕ) Cause) → view ≡ state → spelled ≡ name
    → position (is_provider_node name) state.provider_nodes ≡ Some i → r ≡ get_or view.provider_nodes i r → Writes r.provider spelled view.clock change p' result
    → DoesStep (write_to state name change (provider_node_named name state)) (supplied view i r p') result
write_seen state view name spelled change i r p' result same named e is h =
    let is' = subst (λ (s : WorldState). r ≡ get_or s.provider_nodes i r) same is in
    let h' = subst (λ (s : WorldState). Writes r.provider spelled s.clock change p' result) same h in
    let h'' = subst (λ n. Writes r.provider n state.clock change p' result) named h' in
    subst (λ (s : WorldState). DoesStep (write_to state name change (provider_node_named name state)) (supplied s i r p') result) (sym same) (write_does state name change i r p' result e is' h'')

-- a write that runs out of memory leaves the nodes
pub write_same : (state : WorldState) (name : List ℕ) (now : ℕ) (change : Change) (i : ℕ) (r : ProviderNode) (p' : ProviderState) (result : Result (List ℕ) Cause) → r ≡ get_or state.provider_nodes i r
    → Writes r.provider name now change p' result → OnErr result (supplied state i r p' ≡ state)
write_same state name now change i r p' (Ok text) is h = tt
write_same state name now change i r p' (Err cause) is h =
    let provider_nodes : set state.provider_nodes i (record r { provider = p' }) ≡ state.provider_nodes =
    ap (λ p. set state.provider_nodes i (record r { provider = p })) h.1 ∙ ap (set state.provider_nodes i) is ∙ set-get_or state.provider_nodes i r in
    λ k. record state { provider_nodes = provider_nodes k }

-- ---- limits

no_limited : (state new : WorldState) (name : List ℕ) (change : ProviderState → ProviderState) → position (is_provider_node name) state.provider_nodes ≡ None → DoesStep (limited state name change (provider_node_named name state)) new (Err UnknownNode)
no_limited state new name change e = ap (limited state name change) (find_no_place (is_provider_node name) state.provider_nodes e)

-- a limit for the log of no provider is refused
pub no_log_limited : (state new : WorldState) (name : List ℕ) (limit : ℕ) → position (is_provider_node name) state.provider_nodes ≡ None → DoesStep (limit_log state name limit) new (Err UnknownNode)
no_log_limited state new name limit e = no_limited state new name (λ p. log_limited p limit) e

-- a limit for the queues of no provider is refused
pub no_queue_limited : (state new : WorldState) (name : List ℕ) (limit : ℕ) → position (is_provider_node name) state.provider_nodes ≡ None → DoesStep (limit_queue state name limit) new (Err UnknownNode)
no_queue_limited state new name limit e = no_limited state new name (λ p. queue_limited p limit) e

limit_ok : (state : WorldState) (name : List ℕ) (change : ProviderState → ProviderState) (i : ℕ) (r : ProviderNode) (p' : ProviderState) → position (is_provider_node name) state.provider_nodes ≡ Some i → r ≡ get_or state.provider_nodes i r → p' ≡ change r.provider
    → DoesStep (limited state name change (provider_node_named name state)) (supplied state i r p') (Ok [])
limit_ok state name change i r p' e is now =
    let found : provider_node_named name state ≡ Some r = found_at (is_provider_node name) state.provider_nodes i r e is in
    let provider_nodes : set state.provider_nodes i (record r { provider = p' }) ≡ with_provider name p' state.provider_nodes = changed_at state.provider_nodes (is_provider_node name) (λ (provider_node : ProviderNode). record provider_node { provider = p' }) i r e is in
    subst (λ o. IsStep (limited state name change o) (supplied state i r p') []) (sym found)
    (ap (λ rs. record state { provider_nodes = rs }) provider_nodes ∙ ap (λ q. record state { provider_nodes = with_provider name q state.provider_nodes }) now, refl)

-- the same of the parts of the code, which sees the state
pub limit_seen : (state view : WorldState) (name : List ℕ) (change : ProviderState → ProviderState) (i : ℕ) (r : ProviderNode) (p' : ProviderState) → view ≡ state → position (is_provider_node name) state.provider_nodes ≡ Some i → r ≡ get_or view.provider_nodes i r
    → p' ≡ change r.provider → DoesStep (limited state name change (provider_node_named name state)) (supplied view i r p') (Ok [])
limit_seen state view name change i r p' same e is now =
    subst (λ (s : WorldState). DoesStep (limited state name change (provider_node_named name state)) (supplied s i r p') (Ok [])) (sym same)
    (limit_ok state name change i r p' e (subst (λ (s : WorldState). r ≡ get_or s.provider_nodes i r) same is) now)

-- ---- refusals

-- a step that is refused does what its refusal says
pub refused_as : (next : StepOutcome) (new : WorldState) (cause : Cause) → next ≡ Err cause → DoesStep next new (Err cause)
refused_as next new BadCommand h = h
refused_as next new UnknownNode h = h
refused_as next new NameTaken h = h
refused_as next new BadRecord h = h
refused_as next new (LimitReached number) h = h
refused_as next new OutsideSuffix h = h
refused_as next new (LaterCookie held given) h = h
refused_as next new Circle h = h
refused_as next new NoMemory h = tt

-- the refusal of an event, at its line
pub refused_at : (line : ℕ) (next : StepOutcome) (new : WorldState) (cause : Cause) → DoesStep next new (Err cause) → RefusedAt line line cause next
refused_at line next new BadCommand h = (h, refl)
refused_at line next new UnknownNode h = (h, refl)
refused_at line next new NameTaken h = (h, refl)
refused_at line next new BadRecord h = (h, refl)
refused_at line next new (LimitReached number) h = (h, refl)
refused_at line next new OutsideSuffix h = (h, refl)
refused_at line next new (LaterCookie held given) h = (h, refl)
refused_at line next new Circle h = (h, refl)
refused_at line next new NoMemory h = tt
