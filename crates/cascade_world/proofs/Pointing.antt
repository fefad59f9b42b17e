-- A consumer that follows another provider, or wants something else, by its place.
use Rattle.std.proofs.Common.{◌≡◌, ◌+◌, ◌<◌, ℕ, Bool, true, false, Option, Some, None, List, [], ◌∷◌, length, set, get_or, refl, ap, sym, subst, ◌∙◌, inl, inr}
use Rattle.std.specs.Prelude.{Result, Ok, Err, position}
use Rattle.std.specs.List.{position_or_len}
use Rattle.std.proofs.lemmas.Bool.{cases_Bool}
use Rattle.std.proofs.lemmas.Option.{slice_get-get_or}
use Rattle.std.proofs.lemmas.Slice.Eq.{bytes_eq-Decides}
use Rattle.entry_tree.specs.Selection.{Search}
use Rattle.entry_tree.proofs.Replacing.{find_no_place}
use Rattle.cascade_exchange.specs.declared.exchange.Exchange.{Exchange}
use Rattle.cascade_exchange.specs.declared.exchange.Exchange.TheVariants as goes
use Rattle.cascade_script.specs.declared.fault.Cause.{Cause}
use Rattle.cascade_script.specs.declared.fault.Cause.TheVariants.{BadCommand, UnknownNode, NameTaken, BadRecord, LimitReached, OutsideSuffix, LaterCookie, Circle, NoMemory}
use Rattle.cascade_nodes.specs.declared.node.ProviderNode.{ProviderNode}
use Rattle.cascade_nodes.specs.declared.node.ConsumerNode.{ConsumerNode}
use Rattle.cascade_nodes.specs.Commits.{commits_all}
use Rattle.cascade_exchange.specs.Exchange.{Agreement, ExchangeOutcome, agreement_of, part_of, idle, respecs}
use Rattle.cascade_world.specs.Places.{ArePlaces}
use Rattle.cascade_report.specs.ReportLines.{StoredStage, ReportLine, stages_of}
use Rattle.cascade_world.specs.World.{WorldState, StepOutcome, DoesStep, IsStep, is_provider_node, is_consumer_node, provider_node_named, first_changed, with_consumer_node, with_pair, with_own, with_lines, with_outcome, commits_in, commits_of, lineage_of, exchange, is_fed, is_offered, pointed, pointed_after, repoint_to, repoint_of, repoint, respec_at, respec_of, respec}
use Rattle.cascade_world.proofs.Found as lookup
use Rattle.cascade_exchange.proofs.Exchanging.{AltersIn, wants_of, part_alters}
use Rattle.cascade_world.proofs.Places.{position_is, found_at, changed_at}
use Rattle.cascade_world.proofs.Lists.{length-first_changed, element}

-- ---- what an order for another provider comes to

-- a repoint of no consumer is refused
pub repoint_unknown : (state : WorldState) (name source : List ℕ) → position (is_consumer_node name) state.consumer_nodes ≡ None → repoint state name source ≡ Err UnknownNode
repoint_unknown state name source none = ap (repoint_of state name source) (find_no_place (is_consumer_node name) state.consumer_nodes none)

by_consumer_node : (state : WorldState) (name source : List ℕ) (i : ℕ) (f : ConsumerNode) → position (is_consumer_node name) state.consumer_nodes ≡ Some i → f ≡ get_or state.consumer_nodes i f
    → repoint state name source ≡ repoint_to state name source f (provider_node_named source state)
by_consumer_node state name source i f e is = ap (repoint_of state name source) (found_at (is_consumer_node name) state.consumer_nodes i f e is)

-- a repoint to no provider is refused
pub repoint_nowhere : (state : WorldState) (name source : List ℕ) (i : ℕ) → position (is_consumer_node name) state.consumer_nodes ≡ Some i → position (is_provider_node source) state.provider_nodes ≡ None → repoint state name source ≡ Err UnknownNode
repoint_nowhere state name source i e none =
    let f = element state.consumer_nodes i (position_is (is_consumer_node name) state.consumer_nodes i e).1 in
    by_consumer_node state name source i f.0 e f.1 ∙ ap (repoint_to state name source f.0) (find_no_place (is_provider_node source) state.provider_nodes none)

-- the consumer stands at the first place, and its new provider at the second
pub record Stand (state : WorldState) (name source : List ℕ) (i j : ℕ) (f : ConsumerNode) (r : ProviderNode) : Type 0 where
  pub at_consumer_node : position (is_consumer_node name) state.consumer_nodes ≡ Some i
  pub consumer_node_is : f ≡ get_or state.consumer_nodes i f
  pub at_provider_node : position (is_provider_node source) state.provider_nodes ≡ Some j
  pub provider_node_is : r ≡ get_or state.provider_nodes j r

-- the same of the parts of the code, which sees the state
pub stand_seen : (state view : WorldState) (name source : List ℕ) (i j : ℕ) (f : ConsumerNode) (r : ProviderNode) → view ≡ state → position (is_consumer_node name) state.consumer_nodes ≡ Some i → f ≡ get_or view.consumer_nodes i f
    → position (is_provider_node source) state.provider_nodes ≡ Some j → r ≡ get_or view.provider_nodes j r → Stand state name source i j f r
stand_seen state view name source i j f r same e f_is e' r_is = record {
  at_consumer_node = e;
  consumer_node_is = subst (λ (s : WorldState). f ≡ get_or s.consumer_nodes i f) same f_is;
  at_provider_node = e';
  provider_node_is = subst (λ (s : WorldState). r ≡ get_or s.provider_nodes j r) same r_is;
}

by_both : (state : WorldState) (name source : List ℕ) (i j : ℕ) (f : ConsumerNode) (r : ProviderNode) → Stand state name source i j f r → repoint state name source ≡ repoint_to state name source f (Some r)
by_both state name source i j f r stand =
    by_consumer_node state name source i f stand.at_consumer_node stand.consumer_node_is
    ∙ ap (repoint_to state name source f) (found_at (is_provider_node source) state.provider_nodes j r stand.at_provider_node stand.provider_node_is)

-- a repoint to a node that the consumer feeds is refused
pub repoint_circle : (state : WorldState) (name source : List ℕ) (i j : ℕ) → position (is_consumer_node name) state.consumer_nodes ≡ Some i → position (is_provider_node source) state.provider_nodes ≡ Some j → is_fed state name source ≡ true
    → repoint state name source ≡ Err Circle
repoint_circle state name source i j e e' fed =
    let f = element state.consumer_nodes i (position_is (is_consumer_node name) state.consumer_nodes i e).1 in
    let r = element state.provider_nodes j (position_is (is_provider_node source) state.provider_nodes j e').1 in
    by_both state name source i j f.0 r.0 (record { at_consumer_node = e; consumer_node_is = f.1; at_provider_node = e'; provider_node_is = r.1 }) ∙ rw fed refl

-- a repoint to a provider outside of whose suffix the base is, is refused
pub repoint_outside : (state : WorldState) (name source : List ℕ) (i j : ℕ) (f : ConsumerNode) (r : ProviderNode) → Stand state name source i j f r → is_fed state name source ≡ false → is_offered f.consumer.spec r ≡ false
    → repoint state name source ≡ Err OutsideSuffix
repoint_outside state name source i j f r stand fed out = by_both state name source i j f r stand ∙ rw (fed, out) refl

repoint_through : (state : WorldState) (name source : List ℕ) (i j : ℕ) (f : ConsumerNode) (r : ProviderNode) → Stand state name source i j f r → is_fed state name source ≡ false → is_offered f.consumer.spec r ≡ true
    → repoint state name source ≡ pointed_after name source (exchange state name idle)
repoint_through state name source i j f r stand fed within = by_both state name source i j f r stand ∙ rw (fed, within) refl

-- a refused cut refuses the order
refused_after : (name source : List ℕ) (next : StepOutcome) (new : WorldState) (cause : Cause) → DoesStep next new (Err cause) → DoesStep (pointed_after name source next) new (Err cause)
refused_after name source next new BadCommand h = ap (pointed_after name source) h
refused_after name source next new UnknownNode h = ap (pointed_after name source) h
refused_after name source next new NameTaken h = ap (pointed_after name source) h
refused_after name source next new BadRecord h = ap (pointed_after name source) h
refused_after name source next new (LimitReached number) h = ap (pointed_after name source) h
refused_after name source next new OutsideSuffix h = ap (pointed_after name source) h
refused_after name source next new (LaterCookie held given) h = ap (pointed_after name source) h
refused_after name source next new Circle h = ap (pointed_after name source) h
refused_after name source next new NoMemory h = tt

-- a repoint is refused for what rejects its cut
pub repoint_refused : (state new : WorldState) (name source : List ℕ) (i j : ℕ) (f : ConsumerNode) (r : ProviderNode) (cause : Cause) → Stand state name source i j f r → is_fed state name source ≡ false → is_offered f.consumer.spec r ≡ true
    → DoesStep (exchange state name idle) new (Err cause) → DoesStep (repoint state name source) new (Err cause)
repoint_refused state new name source i j f r cause stand fed within h =
    subst (λ next. DoesStep next new (Err cause)) (sym (repoint_through state name source i j f r stand fed within)) (refused_after name source (exchange state name idle) new cause h)

-- ---- an exchange keeps each consumer at its place

position-changed : {X : Type 0} (test : X → Bool) (y : X) (xs : List X) → test y ≡ true → position_or_len test (first_changed test (λ x. y) xs) ≡ position_or_len test xs
position-changed test y [] picks = refl
position-changed test y (x ∷ xs) picks =
    elim (cases_Bool (test x)) [
      | inl hit ↦ rw (hit, picks) refl
      | inr miss ↦ rw (miss, miss) (ap (λ k. 1 + k) (position-changed test y xs picks))
    ]

place_kept : {X : Type 0} (test : X → Bool) (y : X) (xs : List X) → test y ≡ true → position test (first_changed test (λ x. y) xs) ≡ position test xs
place_kept test y xs picks = rw (position-changed test y xs picks, length-first_changed test (λ x. y) xs) refl

-- the consumers of a state are these where it is reached
abbrev HasConsumerNodes : List ConsumerNode → Result WorldState Cause → Type 0
HasConsumerNodes consumer_nodes (Ok state) = state.consumer_nodes ≡ consumer_nodes
HasConsumerNodes consumer_nodes (Err cause) = Unit {0}

own_kept : (state : WorldState) (own : Result ProviderNode Cause) → HasConsumerNodes state.consumer_nodes (with_own state own)
own_kept state (Ok own) = refl
own_kept state (Err cause) = tt

commits_kept : (state : WorldState) (consumer_node : ConsumerNode) (stages : List StoredStage) → HasConsumerNodes state.consumer_nodes (commits_of state consumer_node stages)
commits_kept state consumer_node stages = by (provider_node_named consumer_node.name state)
  where
    by : (found : Option ProviderNode) → HasConsumerNodes state.consumer_nodes (commits_in state consumer_node.consumer.spec stages found)
    by None = refl
    by (Some own) = own_kept state (commits_all state.clock consumer_node.consumer.spec own stages)

abbrev IsAt : List ℕ → ℕ → StepOutcome → Type 0
IsAt name i (Ok next) = position (is_consumer_node name) next.0.consumer_nodes ≡ Some i
IsAt name i (Err cause) = Unit {0}

lines_at : (name : List ℕ) (i : ℕ) (consumer_nodes : List ConsumerNode) (lines : List ReportLine) (result : Result WorldState Cause) → position (is_consumer_node name) consumer_nodes ≡ Some i → HasConsumerNodes consumer_nodes result → IsAt name i (with_lines lines result)
lines_at name i consumer_nodes lines (Ok state) e same = ap (position (is_consumer_node name)) same ∙ e
lines_at name i consumer_nodes lines (Err cause) e same = tt

outcome_at : (wants : Search → Search) (state : WorldState) (name : List ℕ) (i : ℕ) (before : Agreement) (outcome : ExchangeOutcome) → position (is_consumer_node name) state.consumer_nodes ≡ Some i → name ≡ before.consumer_node.name → AltersIn wants before outcome
    → IsAt name i (with_outcome state outcome)
outcome_at wants state name i before (Ok next) e named kept =
    let same : name ≡ next.0.consumer_node.name = named ∙ sym kept.name in
    let picks : is_consumer_node name next.0.consumer_node ≡ true = (bytes_eq-Decides name next.0.consumer_node.name).1 same in
    let changed : position (is_consumer_node name) (with_consumer_node name next.0.consumer_node state.consumer_nodes) ≡ Some i = place_kept (is_consumer_node name) next.0.consumer_node state.consumer_nodes picks ∙ e in
    let changed' = subst (λ n. position (is_consumer_node name) (with_consumer_node n next.0.consumer_node state.consumer_nodes) ≡ Some i) same changed in
    lines_at name i (with_pair state next.0).consumer_nodes next.1 (commits_of (with_pair state next.0) next.0.consumer_node (stages_of next.1)) changed'
    (commits_kept (with_pair state next.0) next.0.consumer_node (stages_of next.1))
outcome_at wants state name i before (Err cause) e named kept = tt

exchanged_at : (state : WorldState) (name : List ℕ) (i : ℕ) (what : Exchange) → position (is_consumer_node name) state.consumer_nodes ≡ Some i → IsAt name i (exchange state name (part_of what))
exchanged_at state name i what e =
    lookup.exchanged (λ n next. position (is_consumer_node n) state.consumer_nodes ≡ Some i → IsAt n i next) (λ n cause at. tt) state name (part_of what) (λ f r is there at.
    let pair = agreement_of r.provider f (lineage_of state r) in outcome_at (wants_of what) state f.name i pair (part_of what pair) at refl (part_alters what pair)) e

step_at : (name : List ℕ) (i : ℕ) (next : StepOutcome) (mid : WorldState) (text : List ℕ) → IsAt name i next → IsStep next mid text → position (is_consumer_node name) mid.consumer_nodes ≡ Some i
step_at name i (Ok next) mid text at h = ap (λ (s : WorldState). position (is_consumer_node name) s.consumer_nodes) h.0 ∙ at
step_at name i (Err cause) mid text at h = absurd h

-- after an exchange the consumer stands at the place at which it stood
pub still_at : (state mid : WorldState) (name : List ℕ) (i : ℕ) (what : Exchange) (text : List ℕ) → position (is_consumer_node name) state.consumer_nodes ≡ Some i → DoesStep (exchange state name (part_of what)) mid (Ok text)
    → position (is_consumer_node name) mid.consumer_nodes ≡ Some i
still_at state mid name i what text e h = step_at name i (exchange state name (part_of what)) mid text (exchanged_at state name i what e) h

-- an exchange leaves the places of the consumer nodes
pub still_within : (state mid : WorldState) (name : List ℕ) (i : ℕ) (what : Exchange) (text : List ℕ) → position (is_consumer_node name) state.consumer_nodes ≡ Some i → DoesStep (exchange state name (part_of what)) mid (Ok text) → i < length mid.consumer_nodes
still_within state mid name i what text e h = (position_is (is_consumer_node name) mid.consumer_nodes i (still_at state mid name i what text e h)).1

-- ---- the consumer follows its new provider

abbrev sourced : WorldState → ℕ → ConsumerNode → List ℕ → WorldState
sourced state i g source = record state { consumer_nodes = set state.consumer_nodes i (record g { source = source }) }

pointed_step : (name source : List ℕ) (i : ℕ) (g : ConsumerNode) (next : StepOutcome) (mid : WorldState) (text : List ℕ) → position (is_consumer_node name) mid.consumer_nodes ≡ Some i → g ≡ get_or mid.consumer_nodes i g → IsStep next mid text
    → IsStep (pointed_after name source next) (sourced mid i g source) text
pointed_step name source i g (Ok next) mid text e is h =
    let consumer_nodes : set mid.consumer_nodes i (record g { source = source }) ≡ first_changed (is_consumer_node name) (λ (consumer_node : ConsumerNode). record consumer_node { source = source }) mid.consumer_nodes =
    changed_at mid.consumer_nodes (is_consumer_node name) (λ (consumer_node : ConsumerNode). record consumer_node { source = source }) i g e is in
    let here : sourced mid i g source ≡ pointed name source mid = λ k. record mid { consumer_nodes = consumer_nodes k } in
    (here ∙ ap (pointed name source) h.0, h.1)
pointed_step name source i g (Err cause) mid text e is h = absurd h

-- the same of the parts of the code, which sees the state
pub repointed : (state mid view : WorldState) (name source : List ℕ) (i j : ℕ) (f g : ConsumerNode) (r : ProviderNode) (text : List ℕ) → Stand state name source i j f r → is_fed state name source ≡ false → is_offered f.consumer.spec r ≡ true
    → DoesStep (exchange state name idle) mid (Ok text) → view ≡ mid → g ≡ get_or view.consumer_nodes i g → DoesStep (repoint state name source) (sourced view i g source) (Ok text)
repointed state mid view name source i j f g r text stand fed within h same is =
    let is' = subst (λ (s : WorldState). g ≡ get_or s.consumer_nodes i g) same is in
    let at = still_at state mid name i goes.CutIfBusy text stand.at_consumer_node h in
    let step' : IsStep (pointed_after name source (exchange state name idle)) (sourced view i g source) text =
    subst (λ (s : WorldState). IsStep (pointed_after name source (exchange state name idle)) (sourced s i g source) text) (sym same)
    (pointed_step name source i g (exchange state name idle) mid text at is' h) in
    subst (λ next. IsStep next (sourced view i g source) text) (sym (repoint_through state name source i j f r stand fed within)) step'

-- ---- other wishes

respec_by : (state : WorldState) (name : List ℕ) (wish : Search) (j i : ℕ) (r : ProviderNode) → ArePlaces state name (j, i) → r ≡ get_or state.provider_nodes j r → respec state name wish ≡ respec_at state name wish (Some r)
respec_by state name wish j i r places is =
    let low = (position_is (is_consumer_node name) state.consumer_nodes i places.at_consumer_node).1 in
    let both : Some places.consumer_node ≡ Some (get_or state.consumer_nodes i places.consumer_node) = sym places.follows ∙ slice_get-get_or state.consumer_nodes i places.consumer_node low in
    let here : places.consumer_node ≡ get_or state.consumer_nodes i places.consumer_node = cc in
    ap (respec_of state name wish) (found_at (is_consumer_node name) state.consumer_nodes i places.consumer_node places.at_consumer_node here)
    ∙ ap (respec_at state name wish) (found_at (is_provider_node places.consumer_node.source) state.provider_nodes j r places.at_provider_node is)

-- a respec to a base outside the suffix is refused
pub respec_outside : (state : WorldState) (name : List ℕ) (wish : Search) (j i : ℕ) (r : ProviderNode) → ArePlaces state name (j, i) → r ≡ get_or state.provider_nodes j r → is_offered wish r ≡ false → respec state name wish ≡ Err OutsideSuffix
respec_outside state name wish j i r places is out = respec_by state name wish j i r places is ∙ rw out refl

-- a respec to a base within the suffix is an exchange
pub respec_inside : (state : WorldState) (name : List ℕ) (wish : Search) (j i : ℕ) (r : ProviderNode) → ArePlaces state name (j, i) → r ≡ get_or state.provider_nodes j r → is_offered wish r ≡ true
    → respec state name wish ≡ exchange state name (respecs wish)
respec_inside state name wish j i r places is within = respec_by state name wish j i r places is ∙ rw within refl
