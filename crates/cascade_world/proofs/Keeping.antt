-- Each step leaves the directories of replicas in step with their consumers.
use Rattle.std.proofs.Common.{◌≡◌, ◌⊎◌, ◌+◌, ℕ, Bool, false, Option, Some, None, List, [], ◌∷◌, ◌++◌, refl, ap, sym, subst, ◌∙◌, inl, inr}
use Rattle.std.proofs.lemmas.Bool.{cases_Bool, true≢false}
use Rattle.std.specs.Prelude.{Result, Ok, Err, OnErr, find}
use Rattle.std.specs.Str.{bytes_eq}
use Rattle.directory_writes.specs.Directory.{entries_of, with_judged}
use Rattle.dn_names.specs.Names.{TypeAndValue}
use Rattle.entry_tree.specs.History.{state_from}
use Rattle.entry_tree.specs.Reading.{read_change}
use Rattle.entry_tree.specs.Selection.{Search}
use Rattle.entry_tree.specs.declared.op.Op.{Op}
use Rattle.schema_rules.specs.declared.raw.Change.{Change}
use Rattle.sync_consumer.specs.Committing.{stage_in, IsReadyOn}
use Rattle.sync_consumer.proofs.Upholding.{nothing_kept}
use Rattle.sync_messages.specs.declared.request.Mode.TheVariants.{RefreshOnly, RefreshAndPersist}
use Rattle.sync_provider.specs.Machine.{ProviderState, fresh, judged_by, log_limited, queue_limited}
use Rattle.sync_provider.specs.declared.provider.Kind.{Kind}
use Rattle.sync_provider.specs.declared.provider.Kind.TheVariants.{Root, Replica}
use Rattle.cascade_script.specs.declared.fault.Cause.{Cause}
use Rattle.cascade_script.specs.Orders.{Order}
use Rattle.cascade_script.specs.Orders.{Order as asks}
use Rattle.cascade_nodes.specs.declared.node.ProviderNode.{ProviderNode}
use Rattle.cascade_nodes.specs.declared.node.ConsumerNode.{ConsumerNode}
use Rattle.cascade_nodes.specs.Commits.{commits_all, with_stages, AreHeldAfter}
use Rattle.cascade_nodes.proofs.Commits.{HasCommitted, has_committed}
use Rattle.cascade_exchange.specs.Exchange.{Agreement, ExchangeOutcome, agreement_of, part_of, idle, respecs}
use Rattle.cascade_exchange.specs.declared.exchange.Exchange.{Exchange}
use Rattle.cascade_exchange.specs.declared.exchange.Exchange.TheVariants as goes
use Rattle.cascade_exchange.proofs.Carrying.{Carries, IsCarried, CarriedIn, part_carried, respecs_carried}
use Rattle.cascade_exchange.proofs.Exchanging.{Alters, AltersIn, wants_of, part_alters, respecs_alters}
use Rattle.cascade_report.specs.ReportLines.{StoredStage, ReportLine, stages_of}
use Rattle.cascade_world.specs.Directory.{wrote_read, wrote_change}
use Rattle.cascade_world.specs.InStep.{IsInStep, IsSteady, AreInStep, OwnCanCommit}
use Rattle.cascade_world.specs.World.{WorldState, StepOutcome, IsStep, DoesStep, no_nodes, step, is_provider_node, is_consumer_node, provider_node_named, consumer_node_named, first_changed, with_provider, with_consumer_node, with_provider_node, new_provider_node, with_consumer, with_replica, new_consumer_node, write_to, limited, with_pair, with_own, commits_in, commits_of, with_lines, with_outcome, lineage_of, exchange, pointed, pointed_after, shown_of, show_of}
use Rattle.cascade_world.proofs.Finding.{IsChanged, found_after, provider_nodes_by, consumer_nodes_by, provider_node_name, consumer_node_name, provider_changed, consumer_node_changed, provider_node_changed, pointed_changed, IsNew, is_new}
use Rattle.cascade_world.proofs.Found as lookup
use Rattle.cascade_world.proofs.SameNames.{itself, pointed_at}
use Rattle.cascade_world.proofs.Lists.{find-push}

abbrev pub StepKeeps : StepOutcome → Type 0
StepKeeps (Ok next) = AreInStep next.0
StepKeeps (Err cause) = Unit {0}

-- what is nowhere is not found by an equal name
clash : {X : Type 0} (by_name : List ℕ → Option X) (name other : List ℕ) (x : X) → name ≡ other → by_name other ≡ None → by_name name ≡ Some x → ⊥
clash by_name name other x same none found =
    let bad : None ≡ Some x = sym none ∙ ap by_name (sym same) ∙ found in
    cc

-- ---- a directory is changed

-- it is in step with whatever consumer it was in step with
abbrev Stays : ProviderNode → ProviderNode → Type 0
Stays was now = (f : ConsumerNode) → IsInStep f was → IsInStep f now

provider_node_stays : (state : WorldState) (next : List ProviderNode) (name : List ℕ) (was now : ProviderNode) → provider_node_named name state ≡ Some was → IsChanged (provider_nodes_by state.provider_nodes) (provider_nodes_by next) name now
    → Stays was now → AreInStep state → AreInStep (record state { provider_nodes = next })
provider_node_stays state next name was now e changed stays steady other f found =
    record { kept = (steady other f found).kept; own = λ s e'. by s (found_after (provider_nodes_by state.provider_nodes) (provider_nodes_by next) name now changed other s e') }
  where
    by : (s : ProviderNode) → ((other ≡ name) × (now ≡ s)) ⊎ ((bytes_eq other name ≡ false) × (provider_nodes_by state.provider_nodes other ≡ Some s)) → IsInStep f s
    by s (inl here) = subst (IsInStep f) here.1 (stays f ((steady other f found).own was (ap (provider_nodes_by state.provider_nodes) here.0 ∙ e)))
    by s (inr there) = (steady other f found).own s there.1

provider_stays : (state : WorldState) (name : List ℕ) (r : ProviderNode) (provider : ProviderState) → provider_node_named name state ≡ Some r → Stays r (record r { provider = provider }) → AreInStep state
    → AreInStep (record state { provider_nodes = with_provider name provider state.provider_nodes })
provider_stays state name r provider e stays steady =
    provider_node_stays state (with_provider name provider state.provider_nodes) name r (record r { provider = provider }) e (provider_changed state.provider_nodes name r provider e) stays steady

-- a replica takes no write
wrote_stays : (now : ℕ) (change : Change) (r : ProviderNode) → Stays r (record r { provider = wrote_change r.provider now change })
wrote_stays now change r f is = by (read_change change)
  where
    by : (found : Result Op ℕ) → IsInStep f (record r { provider = wrote_read r.provider now found })
    by (Ok op) = record {
      kind = is.kind;
      entries = ap (λ kind. entries_of (with_judged r.provider.directory (judged_by kind r.provider.directory op now))) is.kind ∙ is.entries;
    }
    by (Err code) = record { kind = is.kind; entries = is.entries }

written : (state : WorldState) (name : List ℕ) (change : Change) → AreInStep state → StepKeeps (write_to state name change (provider_node_named name state))
written state name change steady =
    lookup.if_found StepKeeps (write_to state name change) (provider_node_named name state) tt (λ r e. provider_stays state name r (wrote_change r.provider state.clock change) e (wrote_stays state.clock change r) steady)

limit_kept : (state : WorldState) (name : List ℕ) (change : ProviderState → ProviderState) → ((r : ProviderNode) → Stays r (record r { provider = change r.provider })) → AreInStep state
    → StepKeeps (limited state name change (provider_node_named name state))
limit_kept state name change stays steady =
    lookup.if_found StepKeeps (limited state name change) (provider_node_named name state) tt (λ r e. provider_stays state name r (change r.provider) e (stays r) steady)

-- ---- one more node

-- a directory whose name no consumer has
provider_node_declared : (state : WorldState) (count : ℕ) (s : ProviderNode) → consumer_nodes_by state.consumer_nodes s.name ≡ None → AreInStep state
    → AreInStep (record state { nodes = count; provider_nodes = state.provider_nodes ++ s ∷ [] })
provider_node_declared state count s none steady other f found =
    record { kept = (steady other f found).kept; own = λ r e. by r e (find-push (is_provider_node other) state.provider_nodes s r e) }
  where
    by : (r : ProviderNode) → provider_nodes_by (state.provider_nodes ++ s ∷ []) other ≡ Some r → (provider_nodes_by state.provider_nodes other ≡ Some r) ⊎ (s ≡ r) → IsInStep f r
    by r e (inl was) = (steady other f found).own r was
    by r e (inr new) =
        let same : other ≡ s.name = provider_node_name (state.provider_nodes ++ s ∷ []) other r e ∙ ap (λ (x : ProviderNode). x.name) (sym new) in
        absurd (clash (consumer_nodes_by state.consumer_nodes) other s.name f same none found)

-- a consumer, with which the directory of its name is in step
consumer_node_declared : (state : WorldState) (count : ℕ) (f : ConsumerNode) → IsSteady state f.name f → AreInStep state → AreInStep (record state { nodes = count; consumer_nodes = state.consumer_nodes ++ f ∷ [] })
consumer_node_declared state count f new_is steady other g found = by (find-push (is_consumer_node other) state.consumer_nodes f g found)
  where
    by : (consumer_nodes_by state.consumer_nodes other ≡ Some g) ⊎ (f ≡ g) → IsSteady (record state { nodes = count; consumer_nodes = state.consumer_nodes ++ f ∷ [] }) other g
    by (inl was) = record { kept = (steady other g was).kept; own = (steady other g was).own }
    by (inr new) =
        let same : other ≡ f.name = consumer_node_name (state.consumer_nodes ++ f ∷ []) other g found ∙ ap (λ (x : ConsumerNode). x.name) (sym new) in
        record {
          kept = subst (λ (x : ConsumerNode). IsReadyOn x.consumer.copy.held (stage_in x.consumer.copy.session)) new new_is.kept;
          own = λ s e. subst (λ (x : ConsumerNode). IsInStep x s) new (new_is.own s (ap (provider_nodes_by state.provider_nodes) (sym same) ∙ e));
        }

fresh_holds : (suffix : List (List TypeAndValue)) (sid history : ℕ) (kind : Kind) → entries_of (fresh suffix sid history kind).directory ≡ []
unfolding state_from
fresh_holds suffix sid history kind = refl

consumer_kept : (state : WorldState) (name source : List ℕ) (search : Search) (reload : Bool) → AreInStep state → IsNew state name → AreInStep (with_consumer state (new_consumer_node name source search reload))
consumer_kept state name source search reload steady new =
    consumer_node_declared state (state.nodes + 1) (new_consumer_node name source search reload)
    (record { kept = nothing_kept [] refl; own = λ s e. absurd (clash (provider_nodes_by state.provider_nodes) name name s refl new.provider_node e) }) steady

replica_kept : (state : WorldState) (name source : List ℕ) (search : Search) (reload : Bool) → AreInStep state → IsNew state name → AreInStep (with_replica state (new_consumer_node name source search reload))
replica_kept state name source search reload steady new =
    consumer_node_declared (record state { nodes = state.nodes + 1; provider_nodes = state.provider_nodes ++ own ∷ [] }) (state.nodes + 1) (new_consumer_node name source search reload)
    (record { kept = nothing_kept [] refl; own = λ s e. by s (find-push (is_provider_node name) state.provider_nodes own s e) })
    (provider_node_declared state (state.nodes + 1) own new.consumer_node steady)
  where
    own : ProviderNode
    own = new_provider_node state Replica name []

    by : (s : ProviderNode) → (provider_nodes_by state.provider_nodes name ≡ Some s) ⊎ (own ≡ s) → IsInStep (new_consumer_node name source search reload) s
    by s (inl was) = absurd (clash (provider_nodes_by state.provider_nodes) name name s refl new.provider_node was)
    by s (inr is) = subst (IsInStep (new_consumer_node name source search reload)) is (record { kind = refl; entries = fresh_holds [] (state.nodes + 1) (state.nodes + 1) Replica })

-- ---- an exchange, and the commits of a replica

module _ (state : WorldState) (name : List ℕ) (f : ConsumerNode) (r : ProviderNode) (e : consumer_node_named name state ≡ Some f) (found : provider_node_named f.source state ≡ Some r)
    (next : Agreement) (lines : List ReportLine) (carried : IsCarried (agreement_of r.provider f (lineage_of state r)) next lines) (wants : Search → Search) (alters : Alters wants (agreement_of r.provider f (lineage_of state r)) next lines) (steady : AreInStep state) where
  abbrev mid : WorldState
  mid = with_pair state next

  abbrev g : ConsumerNode
  g = next.consumer_node

  abbrev stages : List StoredStage
  stages = stages_of lines

  name_is : name ≡ g.name
  name_is = consumer_node_name state.consumer_nodes name f e ∙ sym alters.name

  provider_nodes_are : IsChanged (provider_nodes_by state.provider_nodes) (provider_nodes_by mid.provider_nodes) f.source (record r { provider = next.provider })
  provider_nodes_are =
      subst (λ n. IsChanged (provider_nodes_by state.provider_nodes) (provider_nodes_by (with_provider n next.provider state.provider_nodes)) f.source (record r { provider = next.provider })) (sym alters.source)
      (provider_changed state.provider_nodes f.source r next.provider found)

  consumer_nodes_are : IsChanged (consumer_nodes_by state.consumer_nodes) (consumer_nodes_by mid.consumer_nodes) name g
  consumer_nodes_are =
      subst (λ n. IsChanged (consumer_nodes_by state.consumer_nodes) (consumer_nodes_by (with_consumer_node n g state.consumer_nodes)) name g) name_is
      (consumer_node_changed state.consumer_nodes name f g e (sym name_is))

  begun : IsSteady state name f
  begun = steady name f e

  carries : Carries f.consumer.copy g.consumer.copy stages
  carries = carried.copy begun.kept

  -- each directory is as before
  record WasSupplied (n : List ℕ) (s : ProviderNode) : Type 0 where
    was : ProviderNode
    there : provider_node_named n state ≡ Some was
    kind : s.provider.kind ≡ was.provider.kind
    entries : entries_of s.provider.directory ≡ entries_of was.provider.directory

  provider_node_was : (n : List ℕ) (s : ProviderNode) → provider_node_named n mid ≡ Some s → WasSupplied n s
  provider_node_was n s there = by (found_after (provider_nodes_by state.provider_nodes) (provider_nodes_by mid.provider_nodes) f.source (record r { provider = next.provider }) provider_nodes_are n s there)
    where
      by : ((n ≡ f.source) × (record r { provider = next.provider } ≡ s)) ⊎ ((bytes_eq n f.source ≡ false) × (provider_nodes_by state.provider_nodes n ≡ Some s)) → WasSupplied n s
      by (inl here) = record {
        was = r;
        there = ap (provider_nodes_by state.provider_nodes) here.0 ∙ found;
        kind = ap (λ (x : ProviderNode). x.provider.kind) (sym here.1) ∙ alters.kind;
        entries = ap (λ (x : ProviderNode). entries_of x.provider.directory) (sym here.1) ∙ ap entries_of alters.directory;
      }
      by (inr same) = record { was = s; there = same.1; kind = refl; entries = refl }

  -- so the consumer's own can commit what was reported
  own_holds : (own : ProviderNode) → provider_node_named g.name mid ≡ Some own → IsInStep f own
  own_holds own there =
      let was = provider_node_was g.name own there in
      let before = begun.own was.was (ap (provider_nodes_by state.provider_nodes) name_is ∙ was.there) in
      record { kind = was.kind ∙ before.kind; entries = was.entries ∙ before.entries }

  -- the stages of an event can be committed at the replica whose consumer took them
  pub can_commit : OwnCanCommit mid stages g
  can_commit own there =
      let before = own_holds own there in
      record { kind = before.kind; held = subst (λ es. AreHeldAfter es stages) (sym before.entries) carries.can }

  -- of the other consumers
  others_steady : (n : List ℕ) (h : ConsumerNode) → consumer_nodes_by state.consumer_nodes n ≡ Some h → (s : ProviderNode) → provider_node_named n mid ≡ Some s → IsInStep h s
  others_steady n h there s at =
      let was = provider_node_was n s at in
      let before = (steady n h there).own was.was was.there in
      record { kind = was.kind ∙ before.kind; entries = was.entries ∙ before.entries }

  tidy_at : (h : ConsumerNode) → g ≡ h → IsReadyOn h.consumer.copy.held (stage_in h.consumer.copy.session)
  tidy_at h is = subst (λ (x : ConsumerNode). IsReadyOn x.consumer.copy.held (stage_in x.consumer.copy.session)) is carries.tidy

  abbrev AtName : List ℕ → ConsumerNode → Type 0
  AtName n h = ((n ≡ name) × (g ≡ h)) ⊎ ((bytes_eq n name ≡ false) × (consumer_nodes_by state.consumer_nodes n ≡ Some h))

  none_kept : provider_node_named g.name mid ≡ None → AreInStep mid
  none_kept none n h there = by (found_after (consumer_nodes_by state.consumer_nodes) (consumer_nodes_by mid.consumer_nodes) name g consumer_nodes_are n h there)
    where
      by : AtName n h → IsSteady mid n h
      by (inl here) = record { kept = tidy_at h here.1; own = λ s at. absurd (clash (provider_nodes_by mid.provider_nodes) n g.name s (here.0 ∙ name_is) none at) }
      by (inr was) = record { kept = (steady n h was.1).kept; own = others_steady n h was.1 }

  module _ (own own' : ProviderNode) (there : provider_node_named g.name mid ≡ Some own) (done : HasCommitted own stages own') where
    abbrev after : WorldState
    after = record mid { provider_nodes = with_provider_node own'.name own' mid.provider_nodes }

    own_name : own'.name ≡ g.name
    own_name = done.name ∙ sym (provider_node_name mid.provider_nodes g.name own there)

    own_are : IsChanged (provider_nodes_by mid.provider_nodes) (provider_nodes_by after.provider_nodes) g.name own'
    own_are =
        subst (λ n. IsChanged (provider_nodes_by mid.provider_nodes) (provider_nodes_by (with_provider_node n own' mid.provider_nodes)) g.name own') (sym own_name)
        (provider_node_changed mid.provider_nodes g.name own own' there own_name)

    own_steady : IsInStep g own'
    own_steady =
        let before = own_holds own there in
        record {
          kind = done.kind ∙ before.kind;
          entries = done.entries (can_commit own there) ∙ ap (λ es. with_stages es stages) before.entries ∙ sym carries.held;
        }

    abbrev AtOwn : List ℕ → ProviderNode → Type 0
    AtOwn n s = ((n ≡ g.name) × (own' ≡ s)) ⊎ ((bytes_eq n g.name ≡ false) × (provider_nodes_by mid.provider_nodes n ≡ Some s))

    apart : (n : List ℕ) → n ≡ g.name → bytes_eq n g.name ≡ false → ⊥
    apart n same miss = true≢false (sym (itself g.name) ∙ ap (λ m. bytes_eq m g.name) (sym same) ∙ miss)

    own_kept : AreInStep after
    own_kept n h at = by (found_after (consumer_nodes_by state.consumer_nodes) (consumer_nodes_by mid.consumer_nodes) name g consumer_nodes_are n h at)
      where
        here_is : n ≡ name → g ≡ h → (s : ProviderNode) → AtOwn n s → IsInStep h s
        here_is same is s (inl new) = subst (λ (x : ConsumerNode). IsInStep x s) is (subst (IsInStep g) new.1 own_steady)
        here_is same is s (inr was) = absurd (apart n (same ∙ name_is) was.0)

        there_is : bytes_eq n name ≡ false → consumer_nodes_by state.consumer_nodes n ≡ Some h → (s : ProviderNode) → AtOwn n s → IsInStep h s
        there_is miss was s (inl new) = absurd (apart n new.0 (ap (bytes_eq n) (sym name_is) ∙ miss))
        there_is miss was s (inr old) = others_steady n h was s old.1

        by : AtName n h → IsSteady after n h
        by (inl here) = record {
          kept = tidy_at h here.1;
          own = λ s at'. here_is here.0 here.1 s (found_after (provider_nodes_by mid.provider_nodes) (provider_nodes_by after.provider_nodes) g.name own' own_are n s at');
        }
        by (inr was) = record {
          kept = (steady n h was.1).kept;
          own = λ s at'. there_is was.0 was.1 s (found_after (provider_nodes_by mid.provider_nodes) (provider_nodes_by after.provider_nodes) g.name own' own_are n s at');
        }

  committed_keeps : (found' : Option ProviderNode) → provider_node_named g.name mid ≡ found' → StepKeeps (with_lines lines (commits_in mid g.consumer.spec stages found'))
  committed_keeps None none = none_kept none
  committed_keeps (Some own) there = by (commits_all mid.clock g.consumer.spec own stages) refl
    where
      by : (result : Result ProviderNode Cause) → commits_all mid.clock g.consumer.spec own stages ≡ result → StepKeeps (with_lines lines (with_own mid result))
      by (Ok own') is = own_kept own own' there (has_committed mid.clock g.consumer.spec own own' stages is)
      by (Err cause) is = tt

  -- after an exchange and its commits each replica's directory is in step with its consumer
  pub pair_keeps : StepKeeps (with_lines lines (commits_of mid g stages))
  pair_keeps = committed_keeps (provider_node_named g.name mid) refl

part_keeps : (wants : Search → Search) (part : Agreement → ExchangeOutcome) → ((p : Agreement) → CarriedIn p (part p)) → ((p : Agreement) → AltersIn wants p (part p)) → (state : WorldState) (name : List ℕ) → AreInStep state → StepKeeps (exchange state name part)
part_keeps wants part carries alters state name steady =
    lookup.exchanged (λ n. StepKeeps) (λ n cause. tt) state name part (λ f r e there. let pair = agreement_of r.provider f (lineage_of state r) in by f r e there (part pair) (carries pair) (alters pair))
  where
    by : (f : ConsumerNode) (r : ProviderNode) → consumer_node_named f.name state ≡ Some f → provider_node_named f.source state ≡ Some r → (outcome : ExchangeOutcome) → CarriedIn (agreement_of r.provider f (lineage_of state r)) outcome
        → AltersIn wants (agreement_of r.provider f (lineage_of state r)) outcome → StepKeeps (with_outcome state outcome)
    by f r e there (Ok next) carried same = pair_keeps state f.name f r e there next.0 next.1 carried wants same steady
    by f r e there (Err cause) carried same = tt

exchange_keeps : (what : Exchange) (state : WorldState) (name : List ℕ) → AreInStep state → StepKeeps (exchange state name (part_of what))
exchange_keeps what = part_keeps (wants_of what) (part_of what) (part_carried what) (part_alters what)

-- ---- other providers, and other wishes

first-none : {X : Type 0} (test : X → Bool) (change : X → X) (xs : List X) → find test xs ≡ None → first_changed test change xs ≡ xs
first-none test change [] none = refl
first-none test change (x ∷ xs) none =
    elim (cases_Bool (test x)) [
      | inl hit ↦ let bad : Some x ≡ None = rw hit at none in let never : ⊥ = cc in absurd never
      | inr miss ↦ let none' : find test xs ≡ None = rw miss at none in rw miss (ap (λ l. x ∷ l) (first-none test change xs none'))
    ]

pointed_some : (name source : List ℕ) (state : WorldState) (f : ConsumerNode) → consumer_node_named name state ≡ Some f → AreInStep state → AreInStep (pointed name source state)
pointed_some name source state f e steady other h there =
    at (found_after (consumer_nodes_by state.consumer_nodes) (consumer_nodes_by (pointed name source state).consumer_nodes) name (pointed_at source f) (pointed_changed state.consumer_nodes name source f e) other h there)
  where
    before : IsSteady state name f
    before = steady name f e

    at : ((other ≡ name) × (pointed_at source f ≡ h)) ⊎ ((bytes_eq other name ≡ false) × (consumer_nodes_by state.consumer_nodes other ≡ Some h)) → IsSteady (pointed name source state) other h
    at (inl here) = record {
      kept = subst (λ (x : ConsumerNode). IsReadyOn x.consumer.copy.held (stage_in x.consumer.copy.session)) here.1 before.kept;
      own = λ s e'.
          let is = before.own s (ap (provider_nodes_by state.provider_nodes) (sym here.0) ∙ e') in
          subst (λ (x : ConsumerNode). IsInStep x s) here.1 (record { kind = is.kind; entries = is.entries });
    }
    at (inr was) = record { kept = (steady other h was.1).kept; own = (steady other h was.1).own }

pointed_keeps : (name source : List ℕ) (state : WorldState) → AreInStep state → AreInStep (pointed name source state)
pointed_keeps name source state steady = by (consumer_node_named name state) refl
  where
    by : (found : Option ConsumerNode) → consumer_node_named name state ≡ found → AreInStep (pointed name source state)
    by None none =
        let same : first_changed (is_consumer_node name) (pointed_at source) state.consumer_nodes ≡ state.consumer_nodes = first-none (is_consumer_node name) (pointed_at source) state.consumer_nodes none in
        subst (λ fs. AreInStep (record state { consumer_nodes = fs })) (sym same) steady
    by (Some f) e = pointed_some name source state f e steady

after_keeps : (name source : List ℕ) (next : StepOutcome) → StepKeeps next → StepKeeps (pointed_after name source next)
after_keeps name source (Ok next) steady = pointed_keeps name source next.0 steady
after_keeps name source (Err cause) steady = tt

-- ---- each order

-- after each order they are in step
pub step_keeps : (state : WorldState) (order : Order) → AreInStep state → StepKeeps (step state order)
step_keeps state (asks.Provider name suffix) steady =
    lookup.root_declared StepKeeps (λ cause. tt) state name suffix (λ new room. provider_node_declared state (state.nodes + 1) (new_provider_node state Root name suffix) (is_new state name new).consumer_node steady)
step_keeps state (asks.Consumer name source search reload) steady =
    lookup.consumer_declared StepKeeps (λ cause. tt) state name source search (with_consumer state (new_consumer_node name source search reload)) (λ new r there inside room. consumer_kept state name source search reload steady (is_new state name new))
step_keeps state (asks.Replica name source search reload) steady =
    lookup.consumer_declared StepKeeps (λ cause. tt) state name source search (with_replica state (new_consumer_node name source search reload)) (λ new r there inside room. replica_kept state name source search reload steady (is_new state name new))
step_keeps state (asks.Clock time) steady = λ name f found. record { kept = (steady name f found).kept; own = (steady name f found).own }
step_keeps state (asks.Write name change) steady = written state name change steady
step_keeps state (asks.OpenOnce name) steady = exchange_keeps (goes.Open RefreshOnly) state name steady
step_keeps state (asks.OpenStay name) steady = exchange_keeps (goes.Open RefreshAndPersist) state name steady
step_keeps state (asks.Send name count) steady = exchange_keeps (goes.Send count) state name steady
step_keeps state (asks.Take name count) steady = exchange_keeps (goes.Take count) state name steady
step_keeps state (asks.Cut name) steady = exchange_keeps goes.Cut state name steady
step_keeps state (asks.Settle name) steady = exchange_keeps goes.Settle state name steady
step_keeps state (asks.Lose name) steady = exchange_keeps goes.LoseCookie state name steady
step_keeps state (asks.Cookie name text) steady = exchange_keeps (goes.SetCookie text) state name steady
step_keeps state (asks.Repoint name source) steady =
    lookup.repointed (λ n. StepKeeps) (λ n cause. tt) state name source (λ f s e there free inside. after_keeps f.name source (exchange state f.name idle) (exchange_keeps goes.CutIfBusy state f.name steady))
step_keeps state (asks.Respec name search) steady =
    lookup.respecced (λ n. StepKeeps) (λ n cause. tt) state name search (λ f r e there inside. part_keeps (λ wish. search) (respecs search) (respecs_carried search) (respecs_alters search) state f.name steady)
step_keeps state (asks.Log name limit) steady = limit_kept state name (λ provider. log_limited provider limit) (λ r f is. record { kind = is.kind; entries = is.entries }) steady
step_keeps state (asks.Queue name limit) steady = limit_kept state name (λ provider. queue_limited provider limit) (λ r f is. record { kind = is.kind; entries = is.entries }) steady
step_keeps state (asks.Show name) steady = lookup.if_found StepKeeps (show_of state name) (shown_of (provider_node_named name state) (consumer_node_named name state)) tt (λ entries e. steady)

-- ---- the world

-- where there are no nodes, they are in step
pub none_in_step : (state : WorldState) → state ≡ no_nodes → AreInStep state
none_in_step state none = subst AreInStep (sym none) (λ name f found. let never : ⊥ = cc in absurd never)

is_step_in_step : (next : StepOutcome) (new : WorldState) (text : List ℕ) → StepKeeps next → IsStep next new text → AreInStep new
is_step_in_step (Ok next) new text steady is = subst AreInStep (sym is.0) steady
is_step_in_step (Err cause) new text steady is = absurd is

-- after an order, which left the state where it was refused
pub does_in_step : (state new : WorldState) (order : Order) (result : Result (List ℕ) Cause) → AreInStep state → DoesStep (step state order) new result → OnErr result (new ≡ state) → AreInStep new
does_in_step state new order (Ok text) steady does same = is_step_in_step (step state order) new text (step_keeps state order steady) does
does_in_step state new order (Err cause) steady does same = subst AreInStep (sym same) steady
