-- What is done between a provider and a consumer at their places, and taken back.
use Rattle.std.proofs.Common.{◌≡◌, ◌==◌, ◌<◌, ℕ, Bool, true, false, inl, inr, Some, List, [], ◌∷◌, length, set, get_or, refl, ap, sym, subst, ◌∙◌, arith}
use Rattle.std.specs.Prelude.{◌⊎◌, Result, Ok, Err, IfOk, IfSome, slice_get}
use Rattle.std.proofs.lemmas.Bool.Decides.{nat_tests}
use Rattle.std.proofs.lemmas.List.{get_or-set_same}
use Rattle.std.proofs.Math.ListN.{length-set}
use Rattle.std.proofs.lemmas.Option.{slice_get-get_or}
use Rattle.sync_provider.specs.Machine.{ProviderState}
use Rattle.sync_provider.specs.Returning.{HasNoWriteSince}
use Rattle.cascade_exchange.specs.declared.exchange.Performed.{Performed}
use Rattle.cascade_script.specs.declared.fault.Cause.{Cause}
use Rattle.cascade_script.specs.declared.fault.Cause.TheVariants.{NoMemory}
use Rattle.cascade_nodes.specs.declared.node.ProviderNode.{ProviderNode}
use Rattle.cascade_nodes.specs.declared.node.ConsumerNode.{ConsumerNode}
use Rattle.cascade_nodes.specs.Commits.{Leaves}
use Rattle.cascade_exchange.specs.Exchange.{Agreement, ExchangeOutcome, agreement_of}
use Rattle.cascade_nodes.specs.Ours.{IsOurs}
use Rattle.cascade_exchange.specs.Parts.{Performs, BringsBack, provider_back, consumer_back}
use Rattle.cascade_world.specs.Places.{ArePlaces, placed, PerformsAt}
use Rattle.cascade_report.specs.ReportLines.{StoredStage}
use Rattle.cascade_world.specs.World.{WorldState, is_provider_node, is_consumer_node, top_of, commits_of}
use Rattle.cascade_world.proofs.Places.{position_is}
use Rattle.cascade_world.proofs.Lists.{element, read_at, set_same, set_back}

-- the place of the provider node is one of the list
pub provider_node_low : (state : WorldState) (name : List ℕ) (j i : ℕ) → ArePlaces state name (j, i) → j < length state.provider_nodes
provider_node_low state name j i places = (position_is (is_provider_node places.consumer_node.source) state.provider_nodes j places.at_provider_node).1

-- the place of the consumer node is one of the list
pub consumer_node_low : (state : WorldState) (name : List ℕ) (j i : ℕ) → ArePlaces state name (j, i) → i < length state.consumer_nodes
consumer_node_low state name j i places = (position_is (is_consumer_node name) state.consumer_nodes i places.at_consumer_node).1

-- ---- what is done

abbrev served : List ℕ → ProviderNode → ProviderState → ConsumerNode → Agreement
served top r p f = agreement_of p f (record { top = top; notes = r.notes })

-- the parts of the code see the state
pub performed_at : (state view : WorldState) (j i : ℕ) (part : Agreement → ExchangeOutcome) (seen r r' : ProviderNode) (f f' : ConsumerNode) (top : List ℕ) (result : Result Performed Cause) → view ≡ state → j < length state.provider_nodes → i < length state.consumer_nodes
    → seen ≡ get_or view.provider_nodes j seen → r ≡ get_or view.provider_nodes j r → f ≡ get_or view.consumer_nodes i f → top ≡ top_of state seen.name
    → Performs (part (served top r r.provider f)) (served top r r'.provider f') result → IfOk result (λ done. (done.stages.items ≡ []) ⊎ BringsBack r.provider f r'.provider f' done.before) → r' ≡ record r { provider = r'.provider }
    → PerformsAt state j i part (record view { provider_nodes = set view.provider_nodes j r'; consumer_nodes = set view.consumer_nodes i f' }) result
performed_at state view j i part seen r r' f f' top result same low low' seen_is r_is f_is above does before kept =
    let r_at : slice_get state.provider_nodes j ≡ Some r = read_at state.provider_nodes j r low (subst (λ (s : WorldState). r ≡ get_or s.provider_nodes j r) same r_is) in
    let f_at : slice_get state.consumer_nodes i ≡ Some f = read_at state.consumer_nodes i f low' (subst (λ (s : WorldState). f ≡ get_or s.consumer_nodes i f) same f_is) in
    let seen_at : slice_get state.provider_nodes j ≡ Some seen = read_at state.provider_nodes j seen low (subst (λ (s : WorldState). seen ≡ get_or s.provider_nodes j seen) same seen_is) in
    let both : Some seen ≡ Some r = sym seen_at ∙ r_at in
    let one : seen ≡ r = cc in
    let above' : top ≡ top_of state r.name = above ∙ ap (λ (s : ProviderNode). top_of state s.name) one in
    record {
      provider_node = r;
      consumer_node = f;
      at_provider_node = r_at;
      at_consumer_node = f_at;
      provider = r'.provider;
      consumer = f';
      does = subst (λ name. Performs (part (served name r r.provider f)) (served name r r'.provider f') result) above' does;
      before = before;
      after = ap (λ (s : WorldState). record s { provider_nodes = set s.provider_nodes j r'; consumer_nodes = set s.consumer_nodes i f' }) same ∙ ap (λ s. record state { provider_nodes = set state.provider_nodes j s; consumer_nodes = set state.consumer_nodes i f' }) kept;
    }

-- where a stage took effect both can be brought back, by whether the exchange is done in steps
pub either : (p p1 : ProviderState) (f f1 : ConsumerNode) (result : Result Performed Cause) (stepwise : Bool) → (stepwise ≡ true → IfOk result (λ done. BringsBack p f p1 f1 done.before)) → (stepwise ≡ false → IfOk result (λ done. done.stages.items ≡ []))
    → IfOk result (λ done. (done.stages.items ≡ []) ⊎ BringsBack p f p1 f1 done.before)
either p p1 f f1 (Ok done) true back none = inr (back refl)
either p p1 f f1 (Ok done) false back none = inl (none refl)
either p p1 f f1 (Err cause) stepwise back none = tt

-- out of memory, before anything is done
pub unperformed : (state : WorldState) (j i : ℕ) (part : Agreement → ExchangeOutcome) → j < length state.provider_nodes → i < length state.consumer_nodes → PerformsAt state j i part state (Err NoMemory)
unperformed state j i part low low' =
    let r = element state.provider_nodes j low in
    let f = element state.consumer_nodes i low' in
    let provider_nodes : state.provider_nodes ≡ set state.provider_nodes j r.0 = sym (set_same state.provider_nodes j r.0 r.0 r.1 refl) in
    let consumer_nodes : state.consumer_nodes ≡ set state.consumer_nodes i f.0 = sym (set_same state.consumer_nodes i f.0 f.0 f.1 refl) in
    record {
      provider_node = r.0;
      consumer_node = f.0;
      at_provider_node = read_at state.provider_nodes j r.0 low r.1;
      at_consumer_node = read_at state.consumer_nodes i f.0 low' f.1;
      provider = r.0.provider;
      consumer = f.0;
      does = tt;
      before = tt;
      after = λ k. record state { provider_nodes = provider_nodes k; consumer_nodes = consumer_nodes k };
    }

-- no stage is reported
pub no_stages : (stages : List StoredStage) (count : ℕ) → count ≡ length stages → (count == 0) ≡ true → stages ≡ []
no_stages [] count long empty = refl
no_stages (stage ∷ stages) count long empty = let none : count ≡ 0 = grind (arith, nat_tests) in absurd (omega arith)

-- some stage is
pub some_stages : (stages : List StoredStage) (count : ℕ) → count ≡ length stages → (count == 0) ≡ false → stages ≡ [] → ⊥
some_stages [] count long some none = let empty : (count == 0) ≡ true = ap (λ (n : ℕ). n == 0) long in cc
some_stages (stage ∷ stages) count long some none = cc

-- ---- the two after it

-- the consumer at its place is as the exchange left it
pub consumer_after : (state mid : WorldState) (j i : ℕ) (part : Agreement → ExchangeOutcome) (result : Result Performed Cause) (at : PerformsAt state j i part mid result) → i < length state.consumer_nodes → slice_get mid.consumer_nodes i ≡ Some at.consumer
consumer_after state mid j i part result at low =
    let long : length (set state.consumer_nodes i at.consumer) ≡ length state.consumer_nodes = length-set state.consumer_nodes i at.consumer in
    ap (λ (s : WorldState). slice_get s.consumer_nodes i) at.after
    ∙ slice_get-get_or (set state.consumer_nodes i at.consumer) i at.consumer (omega arith)
    ∙ ap Some (get_or-set_same state.consumer_nodes i at.consumer at.consumer low)

provider_node_after : (state mid : WorldState) (j i : ℕ) (part : Agreement → ExchangeOutcome) (result : Result Performed Cause) (at : PerformsAt state j i part mid result) (r : ProviderNode) → j < length state.provider_nodes → r ≡ get_or mid.provider_nodes j r
    → r ≡ record at.provider_node { provider = at.provider }
provider_node_after state mid j i part result at r low is =
    is ∙ ap (λ (s : WorldState). get_or s.provider_nodes j r) at.after ∙ get_or-set_same state.provider_nodes j (record at.provider_node { provider = at.provider }) r low

-- what the consumer's own node commits
pub leaves_at : (state mid new : WorldState) (j i : ℕ) (part : Agreement → ExchangeOutcome) (result : Result Performed Cause) (stages : List StoredStage) (answer : Result (Unit {0}) Cause) (at : PerformsAt state j i part mid result) → i < length state.consumer_nodes
    → IfSome (slice_get mid.consumer_nodes i) (λ consumer_node. Leaves (commits_of mid consumer_node stages) new answer) → Leaves (commits_of mid at.consumer stages) new answer
leaves_at state mid new j i part result stages answer at low does = subst (λ o. IfSome o (λ consumer_node. Leaves (commits_of mid consumer_node stages) new answer)) (consumer_after state mid j i part result at low) does

-- ---- what is taken back

-- where a stage took effect both can be brought back
pub stands : (state mid : WorldState) (j i : ℕ) (part : Agreement → ExchangeOutcome) (done : Performed) (at : PerformsAt state j i part mid (Ok done)) → (done.stages.items ≡ [] → ⊥) → BringsBack at.provider_node.provider at.consumer_node at.provider at.consumer done.before
stands state mid j i part done at some = by at.before
  where
    by : (done.stages.items ≡ []) ⊎ BringsBack at.provider_node.provider at.consumer_node at.provider at.consumer done.before → BringsBack at.provider_node.provider at.consumer_node at.provider at.consumer done.before
    by (inl none) = absurd (some none)
    by (inr back) = back

-- the provider got no write
pub no_write : (state mid view : WorldState) (j i : ℕ) (part : Agreement → ExchangeOutcome) (done : Performed) (r : ProviderNode) → j < length state.provider_nodes → PerformsAt state j i part mid (Ok done) → (done.stages.items ≡ [] → ⊥) → view ≡ mid
    → r ≡ get_or view.provider_nodes j r → IfSome done.before.own (HasNoWriteSince r.provider.directory)
no_write state mid view j i part done r low at some same is =
    let r_is : r ≡ record at.provider_node { provider = at.provider } = provider_node_after state mid j i part (Ok done) at r low (subst (λ (s : WorldState). r ≡ get_or s.provider_nodes j r) same is) in
    subst (λ (s : ProviderNode). IfSome done.before.own (HasNoWriteSince s.provider.directory)) (sym r_is) (stands state mid j i part done at some).no_write

-- and the search that is kept was one of a script
pub kept_ours : (state mid : WorldState) (j i : ℕ) (part : Agreement → ExchangeOutcome) (done : Performed) → PerformsAt state j i part mid (Ok done) → (done.stages.items ≡ [] → ⊥) → IfSome done.before.own (λ own. IfSome own.search IsOurs)
kept_ours state mid j i part done at some = (stands state mid j i part done at some).ours

-- an exchange that is taken back leaves the nodes as they were
pub taken_back : (state mid view : WorldState) (j i : ℕ) (part : Agreement → ExchangeOutcome) (done : Performed) (r : ProviderNode) (f : ConsumerNode) (p' : ProviderState) (f' : ConsumerNode) → j < length state.provider_nodes → i < length state.consumer_nodes
    → PerformsAt state j i part mid (Ok done) → (done.stages.items ≡ [] → ⊥) → view ≡ mid → r ≡ get_or view.provider_nodes j r → f ≡ get_or view.consumer_nodes i f → p' ≡ provider_back done.before r.provider f → f' ≡ consumer_back done.before.consumer_node f
    → record view { provider_nodes = set view.provider_nodes j (record r { provider = p' }); consumer_nodes = set view.consumer_nodes i f' } ≡ state
taken_back state mid view j i part done r f p' f' low low' at some same is f_is p'_is f'_is =
    let back = stands state mid j i part done at some in
    let r_is : r ≡ record at.provider_node { provider = at.provider } = provider_node_after state mid j i part (Ok done) at r low (subst (λ (s : WorldState). r ≡ get_or s.provider_nodes j r) same is) in
    let was : f ≡ at.consumer =
    subst (λ (s : WorldState). f ≡ get_or s.consumer_nodes i f) (same ∙ at.after) f_is ∙ get_or-set_same state.consumer_nodes i at.consumer f low' in
    let provider : p' ≡ at.provider_node.provider =
    p'_is ∙ ap (λ (s : ProviderNode). provider_back done.before s.provider f) r_is ∙ ap (provider_back done.before at.provider) was ∙ back.same_provider in
    let provider_node : record r { provider = p' } ≡ at.provider_node = ap (λ (s : ProviderNode). record s { provider = p' }) r_is ∙ ap (λ p. record at.provider_node { provider = p }) provider in
    let consumer_node : f' ≡ at.consumer_node = f'_is ∙ ap (consumer_back done.before.consumer_node) was ∙ back.same_consumer_node in
    let before : placed state j i at.provider_node at.provider at.consumer ≡ view = sym (same ∙ at.after) in
    let provider_nodes : set (set state.provider_nodes j (record at.provider_node { provider = at.provider })) j (record r { provider = p' }) ≡ state.provider_nodes =
    set_back state.provider_nodes j at.provider_node (record at.provider_node { provider = at.provider }) (record r { provider = p' }) at.at_provider_node low provider_node in
    let consumer_nodes : set (set state.consumer_nodes i at.consumer) i f' ≡ state.consumer_nodes = set_back state.consumer_nodes i at.consumer_node at.consumer f' at.at_consumer_node low' consumer_node in
    ap (λ (s : WorldState). record s { provider_nodes = set s.provider_nodes j (record r { provider = p' }); consumer_nodes = set s.consumer_nodes i f' }) (sym before)
    ∙ λ k. record state { provider_nodes = provider_nodes k; consumer_nodes = consumer_nodes k }
