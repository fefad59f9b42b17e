-- What a replica commits, seen in the world.
use Rattle.std.proofs.Common.{◌≡◌, ◌<◌, ℕ, Option, Some, None, List, [], ◌∷◌, length, get_or, set, inl, inr, refl, ap, sym, subst, ◌∙◌, append-nil}
use Rattle.std.proofs.lemmas.Bool.{cases_Bool}
use Rattle.std.specs.Prelude.{Result, Ok, Err, IfSome, OnErr, find, position, slice_get}
use Rattle.std.proofs.lemmas.List.{set-get_or}
use Rattle.std.proofs.lemmas.Option.{slice_get-get_or}
use Rattle.entry_tree.specs.Selection.{Search}
use Rattle.entry_tree.proofs.Replacing.{find_no_place}
use Rattle.cascade_script.specs.declared.fault.Cause.{Cause}
use Rattle.cascade_script.specs.declared.fault.Cause.TheVariants.{BadCommand, UnknownNode, NameTaken, BadRecord, LimitReached, OutsideSuffix, LaterCookie, Circle, NoMemory}
use Rattle.cascade_nodes.specs.declared.node.ProviderNode.{ProviderNode}
use Rattle.cascade_nodes.specs.declared.node.ConsumerNode.{ConsumerNode}
use Rattle.cascade_nodes.specs.Commits.{with_commits, commits_all, CanCommit, Leaves}
use Rattle.cascade_report.specs.ReportLines.{StoredStage}
use Rattle.cascade_world.specs.InStep.{OwnCanCommit}
use Rattle.cascade_world.specs.World.{WorldState, is_provider_node, provider_node_named, with_provider_node, with_own, commits_in, commits_of}
use Rattle.cascade_world.proofs.Finding.{provider_node_name}
use Rattle.cascade_nodes.proofs.Commits.{committed_name}
use Rattle.cascade_world.proofs.Places.{found_at, changed_at}

-- put into its place it changes nothing
same_own : (name : List ℕ) (xs : List ProviderNode) (own : ProviderNode) → find (is_provider_node name) xs ≡ Some own → with_provider_node name own xs ≡ xs
same_own name [] own e = cc
same_own name (x ∷ xs) own e =
    elim (cases_Bool (is_provider_node name x)) [
      | inl hit ↦ let e' : Some x ≡ Some own = rw hit at e in let same : own ≡ x = cc in rw hit (ap (λ s. s ∷ xs) same)
      | inr miss ↦ let e' : find (is_provider_node name) xs ≡ Some own = rw miss at e in rw miss (ap (λ l. x ∷ l) (same_own name xs own e'))
    ]

-- nothing is committed where no stage took effect
pub commits_none : (state : WorldState) (consumer_node : ConsumerNode) → commits_of state consumer_node [] ≡ Ok state
commits_none state consumer_node = by (provider_node_named consumer_node.name state) refl
  where
    by : (found : Option ProviderNode) → provider_node_named consumer_node.name state ≡ found → commits_in state consumer_node.consumer.spec [] found ≡ Ok state
    by None is = refl
    by (Some own) is =
        let same : with_commits state.clock consumer_node.consumer.spec own [] ≡ own = λ i. record own { notes = append-nil own.notes i } in
        let named : with_provider_node own.name own state.provider_nodes ≡ state.provider_nodes =
        ap (λ n. with_provider_node n own state.provider_nodes) (sym (provider_node_name state.provider_nodes consumer_node.name own is)) ∙ same_own consumer_node.name state.provider_nodes own is in
        ap (λ (s : ProviderNode). Ok (record state { provider_nodes = with_provider_node own.name s state.provider_nodes })) same ∙ ap (λ s. Ok (record state { provider_nodes = s })) named

-- what holds of the consumer node at a place holds of what is looked up there
pub at_place : (consumer_nodes : List ConsumerNode) (place : ℕ) (f : ConsumerNode) (P : ConsumerNode → Type 0) → place < length consumer_nodes → f ≡ get_or consumer_nodes place f → P f → IfSome (slice_get consumer_nodes place) P
at_place consumer_nodes place f P low is holds = subst (λ found. IfSome found P) (sym (slice_get-get_or consumer_nodes place f low ∙ ap Some (sym is))) holds

-- a consumer without a directory commits nothing
pub commits_nothing : (state : WorldState) (f : ConsumerNode) (stages : List StoredStage) → position (is_provider_node f.name) state.provider_nodes ≡ None → commits_of state f stages ≡ Ok state
commits_nothing state f stages none = ap (commits_in state f.consumer.spec stages) (find_no_place (is_provider_node f.name) state.provider_nodes none)

own_result : (state : WorldState) (f : ConsumerNode) (stages : List StoredStage) (i : ℕ) (own : ProviderNode) → position (is_provider_node f.name) state.provider_nodes ≡ Some i → own ≡ get_or state.provider_nodes i own
    → commits_of state f stages ≡ with_own state (commits_all state.clock f.consumer.spec own stages)
own_result state f stages i own at is = ap (commits_in state f.consumer.spec stages) (found_at (is_provider_node f.name) state.provider_nodes i own at is)

own_done : (state : WorldState) (f : ConsumerNode) (stages : List StoredStage) (i : ℕ) (own after : ProviderNode) → position (is_provider_node f.name) state.provider_nodes ≡ Some i → own ≡ get_or state.provider_nodes i own
    → commits_all state.clock f.consumer.spec own stages ≡ Ok after → commits_of state f stages ≡ Ok (record state { provider_nodes = set state.provider_nodes i after })
own_done state f stages i own after at is done =
    let named : f.name ≡ after.name =
    provider_node_name state.provider_nodes f.name own (found_at (is_provider_node f.name) state.provider_nodes i own at is) ∙ sym (committed_name state.clock f.consumer.spec own after stages done) in
    let placed : set state.provider_nodes i after ≡ with_provider_node after.name after state.provider_nodes =
    changed_at state.provider_nodes (is_provider_node f.name) (λ (provider_node : ProviderNode). after) i own at is ∙ ap (λ name. with_provider_node name after state.provider_nodes) named in
    own_result state f stages i own at is ∙ ap (with_own state) done ∙ ap (λ provider_nodes. Ok (record state { provider_nodes = provider_nodes })) (sym placed)

own_commits : (state : WorldState) (f : ConsumerNode) (stages : List StoredStage) (i : ℕ) (own after : ProviderNode) (result : Result (Unit {0}) Cause) → position (is_provider_node f.name) state.provider_nodes ≡ Some i → own ≡ get_or state.provider_nodes i own
    → Leaves (commits_all state.clock f.consumer.spec own stages) after result → Leaves (commits_of state f stages) (record state { provider_nodes = set state.provider_nodes i after }) result
own_commits state f stages i own after result at is = by result
  where
    refused : (cause : Cause) → commits_all state.clock f.consumer.spec own stages ≡ Err cause → commits_of state f stages ≡ Err cause
    refused cause h = own_result state f stages i own at is ∙ ap (with_own state) h

    by : (found : Result (Unit {0}) Cause) → Leaves (commits_all state.clock f.consumer.spec own stages) after found → Leaves (commits_of state f stages) (record state { provider_nodes = set state.provider_nodes i after }) found
    by (Ok done) h = own_done state f stages i own after at is h
    by (Err BadCommand) h = refused BadCommand h
    by (Err UnknownNode) h = refused UnknownNode h
    by (Err NameTaken) h = refused NameTaken h
    by (Err BadRecord) h = refused BadRecord h
    by (Err (LimitReached limit)) h = refused (LimitReached limit) h
    by (Err OutsideSuffix) h = refused OutsideSuffix h
    by (Err (LaterCookie held given)) h = refused (LaterCookie held given) h
    by (Err Circle) h = refused Circle h
    by (Err NoMemory) h = tt

-- what stands at one place
same_place : (consumer_nodes : List ConsumerNode) (place : ℕ) (f g : ConsumerNode) → place < length consumer_nodes → f ≡ get_or consumer_nodes place f → g ≡ get_or consumer_nodes place g → g ≡ f
same_place consumer_nodes place f g low is also =
    let both : Some g ≡ Some f = ap Some also ∙ sym (slice_get-get_or consumer_nodes place g low) ∙ slice_get-get_or consumer_nodes place f low ∙ ap Some (sym is) in
    cc

-- the same of the parts of the code, which sees the state
pub own_seen : (state view : WorldState) (place i : ℕ) (f g : ConsumerNode) (wants : Search) (stages : List StoredStage) (own after : ProviderNode) (result : Result (Unit {0}) Cause) → view ≡ state → place < length state.consumer_nodes
    → f ≡ get_or view.consumer_nodes place f → g ≡ get_or view.consumer_nodes place g → wants ≡ g.consumer.spec → position (is_provider_node f.name) state.provider_nodes ≡ Some i → own ≡ get_or view.provider_nodes i own
    → Leaves (commits_all view.clock wants own stages) after result
    → IfSome (slice_get state.consumer_nodes place) (λ consumer_node. Leaves (commits_of state consumer_node stages) (record view { provider_nodes = set view.provider_nodes i after }) result)
own_seen state view place i f g wants stages own after result same low is also wanted at own_is does =
    let is' = subst (λ (s : WorldState). f ≡ get_or s.consumer_nodes place f) same is in
    let also' = subst (λ (s : WorldState). g ≡ get_or s.consumer_nodes place g) same also in
    let own_is' = subst (λ (s : WorldState). own ≡ get_or s.provider_nodes i own) same own_is in
    let spec : wants ≡ f.consumer.spec = wanted ∙ ap (λ (h : ConsumerNode). h.consumer.spec) (same_place state.consumer_nodes place f g low is' also') in
    let does' = subst (λ (s : WorldState). Leaves (commits_all s.clock wants own stages) after result) same does in
    let does'' = subst (λ found. Leaves (commits_all state.clock found own stages) after result) spec does' in
    at_place state.consumer_nodes place f (λ consumer_node. Leaves (commits_of state consumer_node stages) (record view { provider_nodes = set view.provider_nodes i after }) result) low is'
    (subst (λ (s : WorldState). Leaves (commits_of state f stages) (record s { provider_nodes = set s.provider_nodes i after }) result) (sym same)
    (own_commits state f stages i own after result at own_is' does''))

-- and what it can commit
pub own_can : (state view : WorldState) (place i : ℕ) (f : ConsumerNode) (own : ProviderNode) (stages : List StoredStage) → view ≡ state → place < length state.consumer_nodes → f ≡ get_or view.consumer_nodes place f
    → position (is_provider_node f.name) state.provider_nodes ≡ Some i → own ≡ get_or view.provider_nodes i own → IfSome (slice_get state.consumer_nodes place) (OwnCanCommit state stages) → CanCommit own stages
own_can state view place i f own stages same low is at own_is can =
    let is' = subst (λ (s : WorldState). f ≡ get_or s.consumer_nodes place f) same is in
    let own_is' = subst (λ (s : WorldState). own ≡ get_or s.provider_nodes i own) same own_is in
    let can' : OwnCanCommit state stages f = subst (λ found. IfSome found (OwnCanCommit state stages)) (slice_get-get_or state.consumer_nodes place f low ∙ ap Some (sym is')) can in
    can' own (found_at (is_provider_node f.name) state.provider_nodes i own at own_is')

-- a refusal leaves the replica, and so the world
pub own_same : (state : WorldState) (i : ℕ) (own after : ProviderNode) (result : Result (Unit {0}) Cause) → own ≡ get_or state.provider_nodes i own → OnErr result (after ≡ own)
    → OnErr result (record state { provider_nodes = set state.provider_nodes i after } ≡ state)
own_same state i own after (Ok done) is same = tt
own_same state i own after (Err cause) is same =
    let provider_nodes : set state.provider_nodes i after ≡ state.provider_nodes = ap (set state.provider_nodes i) (same ∙ is) ∙ set-get_or state.provider_nodes i own in
    λ k. record state { provider_nodes = provider_nodes k }
