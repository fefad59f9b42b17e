-- What each event reports of links and copies is what happens to them.
use Rattle.std.proofs.Common.{◌≡◌, ◌⊎◌, ◌+◌, ℕ, Bool, true, false, ◌||◌, Option, Some, None, List, [], ◌∷◌, ◌++◌, length, refl, ap, sym, subst, ◌∙◌, inl, inr, append-nil}
use Rattle.std.specs.Prelude.{Result, Ok, Err, find}
use Rattle.std.specs.List.{fold, list_any}
use Rattle.std.specs.Str.{bytes_eq}
use Rattle.std.proofs.lemmas.Bool.{cases_Bool, or_left, or_right, or_parts}
use Rattle.std.proofs.lemmas.List.Folds.{list_any-append}
use Rattle.std.proofs.lemmas.List.Sums.{fold-append}
use Rattle.sync_messages.specs.declared.request.Mode.TheVariants.{RefreshOnly, RefreshAndPersist}
use Rattle.schema_rules.specs.declared.raw.Change.{Change}
use Rattle.entry_tree.specs.Selection.{Search}
use Rattle.entry_tree.specs.declared.entry.Entry.{Entry}
use Rattle.entry_tree.proofs.NameKeys.{same_bytes}
use Rattle.sync_provider.specs.Machine.{ProviderState, log_limited, queue_limited}
use Rattle.sync_provider.specs.declared.provider.Kind.TheVariants.{Root, Replica}
use Rattle.cascade_script.specs.Orders.{Order}
use Rattle.cascade_script.specs.Orders.{Order as asks}
use Rattle.cascade_script.specs.declared.fault.Cause.{Cause}
use Rattle.cascade_nodes.specs.declared.node.ConsumerNode.{ConsumerNode}
use Rattle.cascade_nodes.specs.declared.node.ProviderNode.{ProviderNode}
use Rattle.cascade_exchange.proofs.Exchanging.{EachOwn, Alters, AltersIn, as_before, sent_keeps, takes_keeps, cut_keeps, idle_keeps, opens_keeps, settles_keeps, loses_cookie_keeps, sets_cookie_keeps, respecs_alters}
use Rattle.cascade_nodes.specs.Commits.{commits_all}
use Rattle.cascade_world.specs.Directory.{change_code, wrote_change}
use Rattle.cascade_exchange.specs.Exchange.{Agreement, ExchangeOutcome, agreement_of, sent, takes, cut, idle, opens, settles, loses_cookie, sets_cookie, respecs}
use Rattle.cascade_report.specs.ReportLines.{StoredStage, ReportLine, stages_of}
use Rattle.cascade_report.specs.ReportLines.ReportLine.{Wrote, Clocked, Shown}
use Rattle.cascade_exchange.specs.Trace.{Seen, seen_of, unseen, after_own, after_line, name_in, traced, AreTraced}
use Rattle.cascade_world.specs.World.{WorldState, StepOutcome, step, is_provider_node, is_consumer_node, has_node, provider_node_named, consumer_node_named, first_changed, with_consumer_node, with_provider, with_provider_node, with_pair, with_own, commits_in, commits_of, with_lines, with_outcome, lineage_of, exchange, new_provider_node, with_root, new_consumer_node, with_consumer, with_replica, write_to, limited, pointed, pointed_after, shown_of, show_of}
use Rattle.cascade_world.proofs.SameNames.{itself, other_way, pointed_at}
use Rattle.cascade_world.proofs.Finding.{consumer_node_name}
use Rattle.cascade_world.proofs.Found as lookup
use Rattle.cascade_world.proofs.Lists.{list_any-found, list_any-changed}

-- no two consumers have one name
abbrev pub AreApart : List ConsumerNode → Type 0
AreApart [] = Unit {0}
AreApart (f ∷ fs) = (list_any (is_consumer_node f.name) fs ≡ false) × AreApart fs

-- it reports of the time
abbrev pub IsOfTime : ReportLine → Type 0
IsOfTime line = (time : ℕ) × (line ≡ Clocked time)

-- each line is of a node, or of the time
abbrev pub IsOfNode : WorldState → ReportLine → Type 0
IsOfNode state line = IsOfTime line ⊎ (has_node (name_in line) state ≡ true)

-- each line is of a node that there is
abbrev pub AreOfNodes : WorldState → List ReportLine → Type 0
AreOfNodes state [] = Unit {0}
AreOfNodes state (line ∷ lines) = IsOfNode state line × AreOfNodes state lines

-- what the lines report is what the nodes are
pub record AreReported (state : WorldState) (lines : List ReportLine) : Type 0 where
  pub apart : AreApart state.consumer_nodes
  pub of_nodes : AreOfNodes state lines
  pub reported : AreTraced lines state.consumer_nodes

of_nodes-append : (state : WorldState) (ls ms : List ReportLine) → AreOfNodes state ls → AreOfNodes state ms → AreOfNodes state (ls ++ ms)
of_nodes-append state [] ms h k = k
of_nodes-append state (l ∷ ls) ms h k = (h.0, of_nodes-append state ls ms h.1 k)

-- nodes that were there are there still
abbrev StillThere : WorldState → WorldState → Type 0
StillThere old new = (name : List ℕ) → has_node name old ≡ true → has_node name new ≡ true

still_of_nodes : (old new : WorldState) (lines : List ReportLine) → StillThere old new → AreOfNodes old lines → AreOfNodes new lines
still_of_nodes old new [] still h = tt
still_of_nodes old new (line ∷ lines) still h = (by h.0, still_of_nodes old new lines still h.1)
  where
    by : IsOfNode old line → IsOfNode new line
    by (inl time) = inl time
    by (inr there) = inr (still (name_in line) there)

own_of_nodes : (state : WorldState) (name : List ℕ) (lines : List ReportLine) → has_node name state ≡ true → EachOwn name lines → AreOfNodes state lines
own_of_nodes state name [] there own = tt
own_of_nodes state name (line ∷ lines) there own = (inr (subst (λ n. has_node n state ≡ true) (sym own.0) there), own_of_nodes state name lines there own.1)

-- ---- traces over more lines

own_after : (name : List ℕ) (seen : Seen) (lines : List ReportLine) → EachOwn name lines → fold (after_line name) seen lines ≡ fold after_own seen lines
own_after name seen [] own = refl
own_after name seen (line ∷ lines) own =
    let hit : bytes_eq (name_in line) name ≡ true = subst (λ n. bytes_eq n name ≡ true) (sym own.0) (itself name) in
    let first : after_line name seen line ≡ after_own seen line = rw hit refl in
    ap (λ s. fold (after_line name) s lines) first ∙ own_after name (after_own seen line) lines own.1

others_after : (name other : List ℕ) (seen : Seen) (lines : List ReportLine) → bytes_eq other name ≡ false → EachOwn other lines → fold (after_line name) seen lines ≡ seen
others_after name other seen [] apart own = refl
others_after name other seen (line ∷ lines) apart own =
    let miss : bytes_eq (name_in line) name ≡ false = subst (λ n. bytes_eq n name ≡ false) (sym own.0) apart in
    let first : after_line name seen line ≡ seen = rw miss refl in
    ap (λ s. fold (after_line name) s lines) first ∙ others_after name other seen lines apart own.1

quiet_after : (name : List ℕ) (seen : Seen) (line : ReportLine) → after_own seen line ≡ seen → after_line name seen line ≡ seen
quiet_after name seen line quiet =
    elim (cases_Bool (bytes_eq (name_in line) name)) [
      | inl hit ↦ rw hit quiet
      | inr miss ↦ rw miss refl
    ]

-- a name that no line has
none_of : (name : List ℕ) (state : WorldState) (seen : Seen) (line : ReportLine) → has_node name state ≡ false → IsOfNode state line → after_line name seen line ≡ seen
none_of name state seen line new (inl time) = subst (λ l. after_line name seen l ≡ seen) (sym time.1) (quiet_after name seen (Clocked time.0) refl)
none_of name state seen line new (inr there) =
    elim (cases_Bool (bytes_eq (name_in line) name)) [
      | inl hit ↦ let bad : has_node name state ≡ true = subst (λ n. has_node n state ≡ true) (same_bytes (name_in line) name hit) there in let worse : false ≡ true = sym new ∙ bad in cc
      | inr miss ↦ rw miss refl
    ]

none_after : (name : List ℕ) (state : WorldState) (seen : Seen) (lines : List ReportLine) → has_node name state ≡ false → AreOfNodes state lines → fold (after_line name) seen lines ≡ seen
none_after name state seen [] new of = refl
none_after name state seen (line ∷ lines) new of =
    ap (λ s. fold (after_line name) s lines) (none_of name state seen line new of.0) ∙ none_after name state seen lines new of.1

traced-append : (name : List ℕ) (ls ms : List ReportLine) → traced name (ls ++ ms) ≡ fold (after_line name) (traced name ls) ms
traced-append name ls ms = fold-append (after_line name) unseen ls ms

-- lines that leave each consumer as it was
others_traced : (name : List ℕ) (ls ms : List ReportLine) (fs : List ConsumerNode) → list_any (is_consumer_node name) fs ≡ false → EachOwn name ms → AreTraced ls fs → AreTraced (ls ++ ms) fs
others_traced name ls ms [] apart own h = tt
others_traced name ls ms (f ∷ fs) apart own h =
    let parts = or_parts (is_consumer_node name f) (list_any (is_consumer_node name) fs) apart in (
      h.0 ∙ sym (traced-append f.name ls ms ∙ others_after f.name name (traced f.name ls) ms parts.0 own),
      others_traced name ls ms fs parts.1 own h.1,
    )

quiet_traced : (line : ReportLine) (ls : List ReportLine) (fs : List ConsumerNode) → ((seen : Seen) → after_own seen line ≡ seen) → AreTraced ls fs → AreTraced (ls ++ line ∷ []) fs
quiet_traced line ls [] quiet h = tt
quiet_traced line ls (f ∷ fs) quiet h =
    (h.0 ∙ sym (traced-append f.name ls (line ∷ []) ∙ quiet_after f.name (traced f.name ls) line (quiet (traced f.name ls))), quiet_traced line ls fs quiet h.1)

-- ---- one consumer changes

-- names stay where a consumer that is changed keeps its own
any_kept : (other name : List ℕ) (change : ConsumerNode → ConsumerNode) (fs : List ConsumerNode) → ((f : ConsumerNode) → is_consumer_node name f ≡ true → (change f).name ≡ f.name)
    → list_any (is_consumer_node other) (first_changed (is_consumer_node name) change fs) ≡ list_any (is_consumer_node other) fs
any_kept other name change fs same = list_any-changed (is_consumer_node name) (is_consumer_node other) change fs (λ f hit. ap (bytes_eq other) (same f hit))

apart_kept : (name : List ℕ) (change : ConsumerNode → ConsumerNode) (fs : List ConsumerNode) → ((f : ConsumerNode) → is_consumer_node name f ≡ true → (change f).name ≡ f.name) → AreApart fs → AreApart (first_changed (is_consumer_node name) change fs)
apart_kept name change [] same h = tt
apart_kept name change (f ∷ fs) same h =
    elim (cases_Bool (is_consumer_node name f)) [
      | inl hit ↦ rw hit (subst (λ n. list_any (is_consumer_node n) fs ≡ false) (sym (same f hit)) h.0, h.1)
      | inr miss ↦ rw miss (any_kept f.name name change fs same ∙ h.0, apart_kept name change fs same h.1)
    ]

changed_traced : (name : List ℕ) (before after : ConsumerNode) (ls ms : List ReportLine) (fs : List ConsumerNode) → find (is_consumer_node name) fs ≡ Some before → after.name ≡ name → AreApart fs → EachOwn name ms
    → seen_of after ≡ fold after_own (seen_of before) ms → AreTraced ls fs → AreTraced (ls ++ ms) (with_consumer_node name after fs)
changed_traced name before after ls ms [] e same apart own step' h = tt
changed_traced name before after ls ms (f ∷ fs) e same apart own step' h =
    elim (cases_Bool (is_consumer_node name f)) [
      | inl hit ↦
          let e' : Some f ≡ Some before = rw hit at e in
          let is : f ≡ before = cc in
          let here : name ≡ f.name = same_bytes name f.name hit in
          let was : seen_of before ≡ traced name ls = ap seen_of (sym is) ∙ h.0 ∙ ap (λ n. traced n ls) (sym here) in
          let now : seen_of after ≡ traced name (ls ++ ms) =
          step' ∙ sym (own_after name (seen_of before) ms own) ∙ ap (λ s. fold (after_line name) s ms) was ∙ sym (traced-append name ls ms) in
          rw hit (now ∙ ap (λ n. traced n (ls ++ ms)) (sym same), others_traced name ls ms fs (subst (λ n. list_any (is_consumer_node n) fs ≡ false) (sym here) apart.0) own h.1)
      | inr miss ↦
          let e' : find (is_consumer_node name) fs ≡ Some before = rw miss at e in
          rw miss (
            h.0 ∙ sym (traced-append f.name ls ms ∙ others_after f.name name (traced f.name ls) ms miss own),
            changed_traced name before after ls ms fs e' same apart.1 own step' h.1,
          )
    ]

-- names stay where a provider is changed
provider_still : (state : WorldState) (name : List ℕ) (provider : ProviderState) (other : List ℕ) → has_node other (record state { provider_nodes = with_provider name provider state.provider_nodes }) ≡ has_node other state
provider_still state name provider other =
    ap (λ b. b || list_any (is_consumer_node other) state.consumer_nodes)
    (list_any-changed (is_provider_node name) (is_provider_node other) (λ (r : ProviderNode). record r { provider = provider }) state.provider_nodes (λ r hit. refl))

-- ---- one consumer has another provider

pointed_traced : (name source : List ℕ) (ls : List ReportLine) (fs : List ConsumerNode) → AreTraced ls fs → AreTraced ls (first_changed (is_consumer_node name) (pointed_at source) fs)
pointed_traced name source ls [] h = tt
pointed_traced name source ls (f ∷ fs) h =
    elim (cases_Bool (is_consumer_node name f)) [
      | inl hit ↦ rw hit h
      | inr miss ↦ rw miss (h.0, pointed_traced name source ls fs h.1)
    ]

-- ---- one more consumer

pushed_apart : (fs : List ConsumerNode) (f : ConsumerNode) → list_any (is_consumer_node f.name) fs ≡ false → AreApart fs → AreApart (fs ++ f ∷ [])
pushed_apart [] f new h = (refl, tt)
pushed_apart (g ∷ gs) f new h =
    let parts = or_parts (is_consumer_node f.name g) (list_any (is_consumer_node f.name) gs) new in
    let none : list_any (is_consumer_node g.name) (gs ++ f ∷ []) ≡ false =
    list_any-append (is_consumer_node g.name) gs (f ∷ []) ∙ ap (λ b. b || (is_consumer_node g.name f || false)) h.0 ∙ ap (λ b. b || false) (other_way f.name g.name parts.0) in
    (none, pushed_apart gs f parts.1 h.1)

pushed_traced : (ls : List ReportLine) (fs : List ConsumerNode) (f : ConsumerNode) → seen_of f ≡ traced f.name ls → AreTraced ls fs → AreTraced ls (fs ++ f ∷ [])
pushed_traced ls [] f new h = (new, tt)
pushed_traced ls (g ∷ gs) f new h = (h.0, pushed_traced ls gs f new h.1)

-- ---- each order

-- what is left is what these lines report
abbrev pub ReportedAfter : List ReportLine → StepOutcome → Type 0
ReportedAfter lines (Err cause) = Unit {0}
ReportedAfter lines (Ok next) = AreReported next.0 (lines ++ next.1)

-- nodes are as reported with no further lines
pub without_lines : (state : WorldState) (lines : List ReportLine) → AreReported state lines → AreReported state (lines ++ [])
without_lines state lines is = subst (AreReported state) (sym (append-nil lines)) is

provider_node_reported : (lines : List ReportLine) (state : WorldState) (number : ℕ) (provider_node : ProviderNode) → AreReported state lines → AreReported (record state { nodes = number; provider_nodes = state.provider_nodes ++ provider_node ∷ [] }) lines
provider_node_reported lines state number provider_node is =
    let after : WorldState = record state { nodes = number; provider_nodes = state.provider_nodes ++ provider_node ∷ [] } in
    let still : StillThere state after =
    λ name there. ap (λ b. b || list_any (is_consumer_node name) state.consumer_nodes) (list_any-append (is_provider_node name) state.provider_nodes (provider_node ∷ [])) ∙ widened (list_any (is_provider_node name) state.provider_nodes) (is_provider_node name provider_node || false) (list_any (is_consumer_node name) state.consumer_nodes) there in
    record { apart = is.apart; of_nodes = still_of_nodes state after lines still is.of_nodes; reported = is.reported }
  where
    widened : (a b c : Bool) → (a || c) ≡ true → ((a || b) || c) ≡ true
    widened true b c h = refl
    widened false b c h = or_right b c h

consumer_node_reported : (lines : List ReportLine) (state : WorldState) (number : ℕ) (f : ConsumerNode) → has_node f.name state ≡ false → seen_of f ≡ unseen → AreReported state lines
    → AreReported (record state { nodes = number; consumer_nodes = state.consumer_nodes ++ f ∷ [] }) lines
consumer_node_reported lines state number f new fresh is =
    let after : WorldState = record state { nodes = number; consumer_nodes = state.consumer_nodes ++ f ∷ [] } in
    let still : StillThere state after =
    λ name there. ap (λ b. list_any (is_provider_node name) state.provider_nodes || b) (list_any-append (is_consumer_node name) state.consumer_nodes (f ∷ [])) ∙ widened (list_any (is_provider_node name) state.provider_nodes) (list_any (is_consumer_node name) state.consumer_nodes) (is_consumer_node name f || false) there in
    record {
      apart = pushed_apart state.consumer_nodes f (or_parts (list_any (is_provider_node f.name) state.provider_nodes) (list_any (is_consumer_node f.name) state.consumer_nodes) new).1 is.apart;
      of_nodes = still_of_nodes state after lines still is.of_nodes;
      reported = pushed_traced lines state.consumer_nodes f (fresh ∙ sym (none_after f.name state unseen lines new is.of_nodes)) is.reported;
    }
  where
    widened : (a b c : Bool) → (a || b) ≡ true → (a || (b || c)) ≡ true
    widened true b c h = refl
    widened false b c h = or_left b c h

consumer_reported : (lines : List ReportLine) (state : WorldState) (f : ConsumerNode) → seen_of f ≡ unseen → AreReported state lines → has_node f.name state ≡ false → AreReported (with_consumer state f) lines
consumer_reported lines state f fresh is new = consumer_node_reported lines state (state.nodes + 1) f new fresh is

replica_reported : (lines : List ReportLine) (state : WorldState) (f : ConsumerNode) → seen_of f ≡ unseen → AreReported state lines → has_node f.name state ≡ false → AreReported (with_replica state f) lines
replica_reported lines state f fresh is new =
    provider_node_reported lines (record state { consumer_nodes = state.consumer_nodes ++ f ∷ [] }) (state.nodes + 1) (new_provider_node state Replica f.name [])
    (consumer_node_reported lines state state.nodes f new fresh is)

provider_reported : (lines : List ReportLine) (state : WorldState) (name : List ℕ) (provider : ProviderState) → AreReported state lines → AreReported (record state { provider_nodes = with_provider name provider state.provider_nodes }) lines
provider_reported lines state name provider is =
    let after : WorldState = record state { provider_nodes = with_provider name provider state.provider_nodes } in
    record { apart = is.apart; of_nodes = still_of_nodes state after lines (λ other h. provider_still state name provider other ∙ h) is.of_nodes; reported = is.reported }

write_reported : (lines : List ReportLine) (state : WorldState) (name : List ℕ) (change : Change) (r : ProviderNode) → provider_node_named name state ≡ Some r → AreReported state lines → ReportedAfter lines (write_to state name change (Some r))
write_reported lines state name change r e is =
    let provider : ProviderState = wrote_change r.provider state.clock change in
    let after : WorldState = record state { provider_nodes = with_provider name provider state.provider_nodes } in
    let line' : ReportLine = Wrote name (change_code r.provider state.clock change) (length provider.directory.writes) in
    let now : AreReported after lines = provider_reported lines state name provider is in
    let there : has_node name state ≡ true = or_left (list_any (is_provider_node name) state.provider_nodes) (list_any (is_consumer_node name) state.consumer_nodes) (list_any-found (is_provider_node name) state.provider_nodes r e) in
    record {
      apart = now.apart;
      of_nodes = of_nodes-append after lines (line' ∷ []) now.of_nodes (inr (provider_still state name provider name ∙ there), tt);
      reported = quiet_traced line' lines state.consumer_nodes (λ seen. refl) is.reported;
    }

limit_reported : (lines : List ReportLine) (state : WorldState) (name : List ℕ) (change : ProviderState → ProviderState) → AreReported state lines → ReportedAfter lines (limited state name change (provider_node_named name state))
limit_reported lines state name change is =
    lookup.if_found (ReportedAfter lines) (limited state name change) (provider_node_named name state) tt (λ r e.
    without_lines (record state { provider_nodes = with_provider name (change r.provider) state.provider_nodes }) lines (provider_reported lines state name (change r.provider) is))

-- the two after the part
pair_reported : (wants : Search → Search) (lines : List ReportLine) (state : WorldState) (name : List ℕ) (before after : Agreement) (more : List ReportLine) → consumer_node_named name state ≡ Some before.consumer_node → AreReported state lines → Alters wants before after more
    → AreReported (with_pair state after) (lines ++ more)
pair_reported wants lines state name before after more e is k =
    let here : name ≡ before.consumer_node.name = consumer_node_name state.consumer_nodes name before.consumer_node e in
    let same : after.consumer_node.name ≡ name = k.name ∙ sym here in
    let named : (f : ConsumerNode) → is_consumer_node name f ≡ true → after.consumer_node.name ≡ f.name = λ f hit. same ∙ same_bytes name f.name hit in
    let own : EachOwn name more = subst (λ n. EachOwn n more) (sym here) k.own in
    let changed' : with_consumer_node after.consumer_node.name after.consumer_node state.consumer_nodes ≡ with_consumer_node name after.consumer_node state.consumer_nodes = ap (λ n. with_consumer_node n after.consumer_node state.consumer_nodes) same in
    let still : (other : List ℕ) → has_node other (with_pair state after) ≡ has_node other state =
    λ other. provider_still (record state { consumer_nodes = with_consumer_node after.consumer_node.name after.consumer_node state.consumer_nodes }) after.consumer_node.source after.provider other
    ∙ ap (λ b. list_any (is_provider_node other) state.provider_nodes || b) (ap (list_any (is_consumer_node other)) changed' ∙ any_kept other name (λ f. after.consumer_node) state.consumer_nodes named) in
    let there : has_node name state ≡ true = or_right (list_any (is_provider_node name) state.provider_nodes) (list_any (is_consumer_node name) state.consumer_nodes) (list_any-found (is_consumer_node name) state.consumer_nodes before.consumer_node e) in
    record {
      apart = subst AreApart (sym changed') (apart_kept name (λ f. after.consumer_node) state.consumer_nodes named is.apart);
      of_nodes =
          of_nodes-append (with_pair state after) lines more (still_of_nodes state (with_pair state after) lines (λ other h. still other ∙ h) is.of_nodes)
          (own_of_nodes (with_pair state after) name more (still name ∙ there) own);
      reported = subst (AreTraced (lines ++ more)) (sym changed') (changed_traced name before.consumer_node after.consumer_node lines more state.consumer_nodes e same is.apart own k.traced is.reported);
    }

-- commits change provider nodes alone, which keep their names
abbrev ReportedIn : List ReportLine → Result WorldState Cause → Type 0
ReportedIn lines (Ok state) = AreReported state lines
ReportedIn lines (Err cause) = Unit {0}

own_reported : (lines : List ReportLine) (state : WorldState) (own : Result ProviderNode Cause) → AreReported state lines → ReportedIn lines (with_own state own)
own_reported lines state (Err cause) is = tt
own_reported lines state (Ok own) is =
    let after : WorldState = record state { provider_nodes = with_provider_node own.name own state.provider_nodes } in
    let still : (other : List ℕ) → has_node other after ≡ has_node other state =
    λ other. ap (λ b. b || list_any (is_consumer_node other) state.consumer_nodes)
    (list_any-changed (is_provider_node own.name) (is_provider_node other) (λ (r : ProviderNode). own) state.provider_nodes (λ r hit. ap (bytes_eq other) (same_bytes own.name r.name hit))) in
    record { apart = is.apart; of_nodes = still_of_nodes state after lines (λ other h. still other ∙ h) is.of_nodes; reported = is.reported }

commits_reported_in : (lines : List ReportLine) (state : WorldState) (search : Search) (stages : List StoredStage) (own : Option ProviderNode) → AreReported state lines → ReportedIn lines (commits_in state search stages own)
commits_reported_in lines state search stages None is = is
commits_reported_in lines state search stages (Some own) is = own_reported lines state (commits_all state.clock search own stages) is

with_lines_reported : (lines more : List ReportLine) (outcome : Result WorldState Cause) → ReportedIn (lines ++ more) outcome → ReportedAfter lines (with_lines more outcome)
with_lines_reported lines more (Ok state) is = is
with_lines_reported lines more (Err cause) is = tt

exchange_done : (wants : Search → Search) (lines : List ReportLine) (state : WorldState) (name : List ℕ) (before : Agreement) (outcome : ExchangeOutcome) → consumer_node_named name state ≡ Some before.consumer_node → AreReported state lines
    → AltersIn wants before outcome → ReportedAfter lines (with_outcome state outcome)
exchange_done wants lines state name before (Err cause) e is k = tt
exchange_done wants lines state name before (Ok next) e is k =
    let after = next.0.consumer_node in
    let mid = with_pair state next.0 in
    with_lines_reported lines next.1 (commits_of mid after (stages_of next.1))
    (commits_reported_in (lines ++ next.1) mid after.consumer.spec (stages_of next.1) (provider_node_named after.name mid) (pair_reported wants lines state name before next.0 next.1 e is k))

exchange_after : (wants : Search → Search) (lines : List ReportLine) (state : WorldState) (name : List ℕ) (part : Agreement → ExchangeOutcome) → ((pair : Agreement) → AltersIn wants pair (part pair)) → AreReported state lines → ReportedAfter lines (exchange state name part)
exchange_after wants lines state name part keeps is =
    lookup.exchanged (λ n. ReportedAfter lines) (λ n cause. tt) state name part (λ f r e there. let pair = agreement_of r.provider f (lineage_of state r) in exchange_done wants lines state f.name pair (part pair) e is (keeps pair))

-- ---- other providers, and other wishes

pointed_reported : (lines : List ReportLine) (name source : List ℕ) (next : StepOutcome) → ReportedAfter lines next → ReportedAfter lines (pointed_after name source next)
pointed_reported lines name source (Err cause) is = tt
pointed_reported lines name source (Ok next) is =
    let state = next.0 in
    let after : WorldState = pointed name source state in
    let still : (other : List ℕ) → has_node other after ≡ has_node other state =
    λ other. ap (λ b. list_any (is_provider_node other) state.provider_nodes || b) (any_kept other name (pointed_at source) state.consumer_nodes (λ f hit. refl)) in
    record {
      apart = apart_kept name (pointed_at source) state.consumer_nodes (λ f hit. refl) is.apart;
      of_nodes = still_of_nodes state after (lines ++ next.1) (λ other h. still other ∙ h) is.of_nodes;
      reported = pointed_traced name source (lines ++ next.1) state.consumer_nodes is.reported;
    }

shown_there : (state : WorldState) (name : List ℕ) (provider_node : Option ProviderNode) (consumer_node : Option ConsumerNode) (entries : List Entry) → provider_node_named name state ≡ provider_node → consumer_node_named name state ≡ consumer_node → shown_of provider_node consumer_node ≡ Some entries → has_node name state ≡ true
shown_there state name (Some provider_node) consumer_node entries r f e = or_left (list_any (is_provider_node name) state.provider_nodes) (list_any (is_consumer_node name) state.consumer_nodes) (list_any-found (is_provider_node name) state.provider_nodes provider_node r)
shown_there state name None (Some consumer_node) entries r f e = or_right (list_any (is_provider_node name) state.provider_nodes) (list_any (is_consumer_node name) state.consumer_nodes) (list_any-found (is_consumer_node name) state.consumer_nodes consumer_node f)
shown_there state name None None entries r f e = cc

show_reported : (lines : List ReportLine) (state : WorldState) (name : List ℕ) (entries : List Entry) → shown_of (provider_node_named name state) (consumer_node_named name state) ≡ Some entries → AreReported state lines → ReportedAfter lines (show_of state name (Some entries))
show_reported lines state name entries e is = record {
  apart = is.apart;
  of_nodes = of_nodes-append state lines (Shown name entries ∷ []) is.of_nodes (inr (shown_there state name (provider_node_named name state) (consumer_node_named name state) entries refl refl e), tt);
  reported = quiet_traced (Shown name entries) lines state.consumer_nodes (λ seen. refl) is.reported;
}

clock_after : (lines : List ReportLine) (state : WorldState) (time : ℕ) → AreReported state lines → AreReported (record state { clock = time }) (lines ++ Clocked time ∷ [])
clock_after lines state time is =
    let after : WorldState = record state { clock = time } in
    record {
      apart = is.apart;
      of_nodes = of_nodes-append after lines (Clocked time ∷ []) (still_of_nodes state after lines (λ name there. there) is.of_nodes) (inl (time, refl), tt);
      reported = quiet_traced (Clocked time) lines state.consumer_nodes (λ seen. refl) is.reported;
    }

-- what an event leaves is what its lines report
pub step_reported_after : (lines : List ReportLine) (state : WorldState) (order : Order) → AreReported state lines → ReportedAfter lines (step state order)
step_reported_after lines state (asks.Provider name suffix) is =
    lookup.root_declared (ReportedAfter lines) (λ cause. tt) state name suffix (λ new room.
    without_lines (with_root state name suffix) lines (provider_node_reported lines state (state.nodes + 1) (new_provider_node state Root name suffix) is))
step_reported_after lines state (asks.Consumer name source search reload) is =
    let f = new_consumer_node name source search reload in
    lookup.consumer_declared (ReportedAfter lines) (λ cause. tt) state name source search (with_consumer state f) (λ new r there inside room. without_lines (with_consumer state f) lines (consumer_reported lines state f refl is new))
step_reported_after lines state (asks.Replica name source search reload) is =
    let f = new_consumer_node name source search reload in
    lookup.consumer_declared (ReportedAfter lines) (λ cause. tt) state name source search (with_replica state f) (λ new r there inside room. without_lines (with_replica state f) lines (replica_reported lines state f refl is new))
step_reported_after lines state (asks.Clock time) is = clock_after lines state time is
step_reported_after lines state (asks.Write name change) is =
    lookup.if_found (ReportedAfter lines) (write_to state name change) (provider_node_named name state) tt (λ r e. write_reported lines state name change r e is)
step_reported_after lines state (asks.OpenOnce name) is = exchange_after as_before lines state name (opens RefreshOnly) (opens_keeps RefreshOnly) is
step_reported_after lines state (asks.OpenStay name) is = exchange_after as_before lines state name (opens RefreshAndPersist) (opens_keeps RefreshAndPersist) is
step_reported_after lines state (asks.Send name count) is = exchange_after as_before lines state name (sent count) (sent_keeps count) is
step_reported_after lines state (asks.Take name count) is = exchange_after as_before lines state name (takes count) (takes_keeps count) is
step_reported_after lines state (asks.Cut name) is = exchange_after as_before lines state name cut cut_keeps is
step_reported_after lines state (asks.Settle name) is = exchange_after as_before lines state name settles settles_keeps is
step_reported_after lines state (asks.Lose name) is = exchange_after as_before lines state name loses_cookie loses_cookie_keeps is
step_reported_after lines state (asks.Cookie name text) is = exchange_after as_before lines state name (sets_cookie text) (sets_cookie_keeps text) is
step_reported_after lines state (asks.Repoint name source) is =
    lookup.repointed (λ n. ReportedAfter lines) (λ n cause. tt) state name source (λ f s e there free inside. pointed_reported lines f.name source (exchange state f.name idle) (exchange_after as_before lines state f.name idle idle_keeps is))
step_reported_after lines state (asks.Respec name search) is =
    lookup.respecced (λ n. ReportedAfter lines) (λ n cause. tt) state name search (λ f r e there inside. exchange_after (λ s. search) lines state f.name (respecs search) (respecs_alters search) is)
step_reported_after lines state (asks.Log name limit) is = limit_reported lines state name (λ p. log_limited p limit) is
step_reported_after lines state (asks.Queue name limit) is = limit_reported lines state name (λ p. queue_limited p limit) is
step_reported_after lines state (asks.Show name) is =
    lookup.if_found (ReportedAfter lines) (show_of state name) (shown_of (provider_node_named name state) (consumer_node_named name state)) tt (λ entries e. show_reported lines state name entries e is)
