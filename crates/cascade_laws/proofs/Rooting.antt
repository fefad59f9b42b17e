-- From which prefix of a root's writes a provider's content is.
use Rattle.std.proofs.Common.{◌≡◌, ◌+◌, ◌≤◌, ℕ, zero, suc, Bool, true, false, Option, Some, None, List, [], ◌∷◌, length, take, refl, ap, sym, subst, ◌∙◌, inl, inr, arith}
use Rattle.std.proofs.lemmas.Bool.{cases_Bool}
use Rattle.std.proofs.lemmas.Option.{slice_get-map}
use Rattle.std.specs.Prelude.{is_some, IfSome, map, slice_get, option_map}
use Rattle.entry_tree.specs.Selection.{Search, select, is_same_search}
use Rattle.entry_tree.specs.declared.entry.Entry.{Entry}
use Rattle.entry_tree.specs.declared.op.Write.{Write}
use Rattle.entry_tree.proofs.Selecting.{select_through}
use Rattle.directory_writes.proofs.Writes.{entries_after-none}
use Rattle.directory_writes.specs.Directory.{entries_after}
use Rattle.sync_provider.specs.declared.provider.Kind.{Kind}
use Rattle.sync_provider.specs.declared.provider.Kind.TheVariants.{Root, Replica}
use Rattle.cascade_nodes.specs.declared.node.ProviderNode.{ProviderNode}
use Rattle.cascade_nodes.specs.declared.node.ConsumerNode.{ConsumerNode}
use Rattle.cascade_report.specs.declared.notes.Origin.{Origin}
use Rattle.cascade_laws.specs.Headline.{following, LeadsUp, AreWritesOf, reported_origin, IsOrigin, IsOfRoot, stored_of}
use Rattle.cascade_script.specs.Orders.{Order}
use Rattle.cascade_world.specs.Origins.{CommitOrigin, prefix_of, passed_on, origin_of}
use Rattle.cascade_world.specs.ReportLines.{Storing, ReportLine}
use Rattle.cascade_world.specs.World.{WorldState, top_of, lineage_of}
use Rattle.cascade_world.proofs.Finding.{provider_nodes_by, provider_node_name, consumer_nodes_by}
use Rattle.cascade_world.proofs.Climbing.{Climbs, found_above, few_above, top_is}
use Rattle.cascade_laws.proofs.Tracking.{IsRoot, IsOfKind, AreConsumers, AreStrangers, ByOrders, noted, CommittedBy, AreCommitters, AreConsumerNodes, IsManned, AreManned, IsRooted, AreRooted, Feeds}
use Rattle.sync_model.proofs.Refresh.{none_from_false}
use Rattle.sync_model.proofs.Limits.{option_map-none}

-- ---- the root at the top

record IsSomebody (found : Option ConsumerNode) : Type 0 where
  consumer_node : ConsumerNode
  there : found ≡ Some consumer_node

somebody : (found : Option ConsumerNode) → is_some found ≡ true → IsSomebody found
somebody (Some f) h = record { consumer_node = f; there = refl }
somebody None h = let never : false ≡ true = h in let bad : ⊥ = cc in absurd bad

record IsRootAt (provider_nodes : List ProviderNode) (top : List ℕ) : Type 0 where
  provider_node : ProviderNode
  there : provider_nodes_by provider_nodes top ≡ Some provider_node
  root : provider_node.provider.kind ≡ Root

root_here : (provider_nodes : List ProviderNode) (name : List ℕ) (r : ProviderNode) (found : Option ConsumerNode) → found ≡ None → provider_nodes_by provider_nodes name ≡ Some r → IsManned r.provider.kind (is_some found) → IsRootAt provider_nodes name
root_here provider_nodes name r found none e manned = record { provider_node = r; there = e; root = by r.provider.kind (let P : Bool → Type 0 = IsManned r.provider.kind in subst P (ap is_some none) manned) }
  where
    by : (kind : Kind) → IsManned kind false → kind ≡ Root
    by Root h = refl
    by Replica h = let never : false ≡ true = h in cc

top_root : (said : List ReportLine) (state : WorldState) → AreManned state.provider_nodes state.consumer_nodes → AreConsumerNodes said state.nodes state.provider_nodes state.consumer_nodes → (path : List (List ℕ)) (name top : List ℕ) (r : ProviderNode)
    → provider_nodes_by state.provider_nodes name ≡ Some r → Climbs state.consumer_nodes name path top → IsRootAt state.provider_nodes top
top_root said state manned fed [] name top r e c =
    subst (IsRootAt state.provider_nodes) (sym c.0) (root_here state.provider_nodes name r (consumer_nodes_by state.consumer_nodes name) (option_map-none (λ (f : ConsumerNode). f.source) (consumer_nodes_by state.consumer_nodes name) c.1) e (manned name r e))
top_root said state manned fed (next ∷ path) name top r e c =
    let is = found_above (consumer_nodes_by state.consumer_nodes name) next c.0 in
    let f = fed name is.consumer_node is.there in
    top_root said state manned fed path next top f.provider_node (ap (provider_nodes_by state.provider_nodes) (sym is.source) ∙ f.there) c.1

-- the top that the state reports
top_at : (state : WorldState) (name : List ℕ) (path : List (List ℕ)) (top : List ℕ) → Climbs state.consumer_nodes name path top → top_of state name ≡ top
top_at state name path top c = top_is (length state.consumer_nodes) state.consumer_nodes name path top c (few_above path state.consumer_nodes name top c)

-- a root is its own
own_top : (state : WorldState) (name : List ℕ) → consumer_nodes_by state.consumer_nodes name ≡ None → top_of state name ≡ name
own_top state name none = top_at state name [] name (refl, ap (option_map (λ (f : ConsumerNode). f.source)) none)

leads_up : (before : List Order) (consumer_nodes : List ConsumerNode) → AreConsumers before consumer_nodes → AreStrangers before consumer_nodes → (path : List (List ℕ)) (name top : List ℕ) → Climbs consumer_nodes name path top → LeadsUp before name path top
leads_up before consumer_nodes consumers strangers [] name top c = (c.0, strangers name (option_map-none (λ (f : ConsumerNode). f.source) (consumer_nodes_by consumer_nodes name) c.1))
leads_up before consumer_nodes consumers strangers (next ∷ path) name top c =
    let is = found_above (consumer_nodes_by consumer_nodes name) next c.0 in
    let f = is.consumer_node in
    (following f.source f.consumer.spec f.consumer.reload, consumers name f is.there, is.source, leads_up before consumer_nodes consumers strangers path next top c.1)

-- ---- what is passed on

passed_as : (search : Search) (found : Option Storing) → passed_on search (option_map noted found) ≡ reported_origin search found
passed_as search None = refl
passed_as search (Some stored) = refl

passed_reported : (search : Search) (notes : List CommitOrigin) (stored : List Storing) (at : ℕ) → notes ≡ map noted stored → passed_on search (slice_get notes at) ≡ reported_origin search (slice_get stored at)
passed_reported search notes stored at same = ap (λ (ns : List CommitOrigin). passed_on search (slice_get ns at)) same ∙ ap (passed_on search) (slice_get-map noted stored at) ∙ passed_as search (slice_get stored at)

rooted_at : (provider_nodes : List ProviderNode) (all : List Storing) (at : ℕ) (one : Storing) → AreRooted provider_nodes all → slice_get all at ≡ Some one → IfSome one.origin (IsRooted provider_nodes one.search one.entries)
rooted_at provider_nodes [] at one is e = let never : ⊥ = cc in absurd never
rooted_at provider_nodes (s ∷ more) zero one is e =
    let same : s ≡ one = cc in subst (λ (x : Storing). IfSome x.origin (IsRooted provider_nodes x.search x.entries)) same is.0
rooted_at provider_nodes (s ∷ more) (suc at) one is e = rooted_at provider_nodes more at one is.1 e

-- what is wanted of a commit, where it is the same as the replica wanted
passed_rooted : (provider_nodes : List ProviderNode) (search : Search) (content : List Entry) (found : Option Storing) → ((one : Storing) → found ≡ Some one → (content ≡ one.entries) × IfSome one.origin (IsRooted provider_nodes one.search one.entries))
    → IfSome (reported_origin search found) (IsRooted provider_nodes search (select search content))
passed_rooted provider_nodes search content None is = tt
passed_rooted provider_nodes search content (Some one) is =
    let at = is one refl in
    elim (cases_Bool (is_same_search one.search search)) [
      | inl same ↦ rw same (by same at.0 one.origin at.1)
      | inr other ↦ rw other tt
    ]
  where
    by : is_same_search one.search search ≡ true → content ≡ one.entries → (origin : Option Origin) → IfSome origin (IsRooted provider_nodes one.search one.entries) → IfSome origin (IsRooted provider_nodes search (select search content))
    by same entries None h = h
    by same entries (Some origin) h =
        let all = entries_after h.provider_node.provider.directory.history (take origin.number h.provider_node.provider.directory.writes) in
        record {
          provider_node = h.provider_node;
          there = h.there;
          root = h.root;
          prefix = h.prefix;
          exactly = ap (select search) (entries ∙ h.exactly) ∙ select_through one.search search all same;
        }

-- ---- the origin of each prefix of a provider's writes

-- where the lineage knows an origin, what is wanted of this prefix is what is wanted of that prefix
-- of the root's writes
pub origin_rooted : (said : List ReportLine) (state : WorldState) (name : List ℕ) (r : ProviderNode) (search : Search) (n : ℕ) → Feeds said state → AreCommitters said state.provider_nodes → provider_nodes_by state.provider_nodes name ≡ Some r → n ≤ length r.provider.directory.writes
    → IfSome (origin_of r.provider.kind (lineage_of state r) search n) (IsRooted state.provider_nodes search (select search (entries_after r.provider.directory.history (take n r.provider.directory.writes))))
origin_rooted said state name r search n feeds commits e low = by r.provider.kind refl n low (feeds.manned name r e) (commits name r e)
  where
    number : ℕ
    number = r.provider.directory.history

    writes : List Write
    writes = r.provider.directory.writes

    provider_nodes : List ProviderNode
    provider_nodes = state.provider_nodes

    named : name ≡ r.name
    named = provider_node_name state.provider_nodes name r e

    by : (kind : Kind) → r.provider.kind ≡ kind → (n : ℕ) → n ≤ length writes → IsManned kind (is_some (consumer_nodes_by state.consumer_nodes name)) → CommittedBy said r kind
        → IfSome (origin_of kind (lineage_of state r) search n) (IsRooted provider_nodes search (select search (entries_after number (take n writes))))
    by Root is n low manned committed =
        let top : top_of state r.name ≡ name = ap (top_of state) (sym named) ∙ own_top state name (none_from_false (consumer_nodes_by state.consumer_nodes name) manned) in
        record { provider_node = r; there = ap (provider_nodes_by provider_nodes) top ∙ e; root = is; prefix = low; exactly = refl }
    by Replica is zero low manned committed =
        let way = feeds.climbs r.name in
        let root = top_root said state feeds.manned feeds.consumer_nodes way.0 r.name way.1 r (ap (provider_nodes_by provider_nodes) (sym named) ∙ e) way.2 in
        let top : top_of state r.name ≡ way.1 = top_at state r.name way.0 way.1 way.2 in
        record {
          provider_node = root.provider_node;
          there = ap (provider_nodes_by provider_nodes) top ∙ root.there;
          root = root.root;
          prefix = omega arith;
          exactly = ap (select search) (entries_after-none number ∙ sym (entries_after-none root.provider_node.provider.directory.history));
        }
    by Replica is (suc at) low manned committed =
        let stored = stored_of r.name said in
        let same : passed_on search (slice_get r.notes at) ≡ reported_origin search (slice_get stored at) = passed_reported search r.notes stored at committed.notes_are in
        let next : at + 1 ≡ suc at = omega arith in
        let each : (one : Storing) → slice_get stored at ≡ Some one → (entries_after number (take (suc at) writes) ≡ one.entries) × IfSome one.origin (IsRooted provider_nodes one.search one.entries) =
        λ one e'. (ap (λ m. entries_after number (take m writes)) (sym next) ∙ committed.each at one e', rooted_at provider_nodes stored at one (feeds.rooted r.name) e') in
        let P : Option Origin → Type 0 = λ o. IfSome o (IsRooted provider_nodes search (select search (entries_after number (take (suc at) writes)))) in
        subst P (sym same) (passed_rooted provider_nodes search (entries_after number (take (suc at) writes)) (slice_get stored at) each)

-- and what the orders and the lines report of it
pub origin_is : (before : List Order) (said : List ReportLine) (state : WorldState) (name : List ℕ) (r : ProviderNode) (search : Search) (n : ℕ) → ByOrders before state → Feeds said state → AreCommitters said state.provider_nodes → provider_nodes_by state.provider_nodes name ≡ Some r
    → IsOrigin before said name search n (origin_of r.provider.kind (lineage_of state r) search n)
origin_is before said state name r search n orders feeds commits e = by r.provider.kind n (feeds.manned name r e) (orders.provider_nodes name r e) (commits name r e)
  where
    named : name ≡ r.name
    named = provider_node_name state.provider_nodes name r e

    by : (kind : Kind) (n : ℕ) → IsManned kind (is_some (consumer_nodes_by state.consumer_nodes name)) → IsOfKind before r.name r.provider.directory kind → CommittedBy said r kind → IsOrigin before said name search n (origin_of kind (lineage_of state r) search n)
    by Root n manned is committed =
        let top : top_of state r.name ≡ name = ap (top_of state) (sym named) ∙ own_top state name (none_from_false (consumer_nodes_by state.consumer_nodes name) manned) in
        let root : IsRoot before name r.provider.directory.history r.provider.directory.suffix r.provider.directory.writes =
        subst (λ x. IsRoot before x r.provider.directory.history r.provider.directory.suffix r.provider.directory.writes) (sym named) is in
        inl record { history = r.provider.directory.history; suffix = r.provider.directory.suffix; later = root.later; declared = root.declared; own = ap (λ t. prefix_of t n) top }
    by Replica zero manned is committed =
        let way = feeds.climbs name in
        let top : top_of state r.name ≡ way.1 = ap (top_of state) (sym named) ∙ top_at state name way.0 way.1 way.2 in
        inr (inl record {
          none = refl;
          path = way.0;
          top = way.1;
          up = leads_up before state.consumer_nodes orders.consumers orders.strangers way.0 name way.1 way.2;
          first = ap (λ t. prefix_of t 0) top;
        })
    by Replica (suc at) manned is committed =
        let there = somebody (consumer_nodes_by state.consumer_nodes name) manned in
        let f = there.consumer_node in
        let next : suc at ≡ at + 1 = omega arith in
        inr (inr record {
          by = following f.source f.consumer.spec f.consumer.reload;
          replica = orders.consumers name f there.there;
          earlier = at;
          counted = next;
          passed = passed_reported search r.notes (stored_of r.name said) at committed.notes_are ∙ ap (λ x. reported_origin search (slice_get (stored_of x said) at)) (sym named);
        })

-- ---- as the headline says it

-- the writes of a provider are those that the headline means
pub accepted_at : (before : List Order) (said : List ReportLine) (state : WorldState) (name : List ℕ) (r : ProviderNode) → ByOrders before state → AreCommitters said state.provider_nodes → provider_nodes_by state.provider_nodes name ≡ Some r
    → AreWritesOf before said name r.provider.directory.history r.provider.directory.writes
accepted_at before said state name r orders commits e =
    subst (λ x. AreWritesOf before said x r.provider.directory.history r.provider.directory.writes) (sym (provider_node_name state.provider_nodes name r e)) (by r.provider.kind (orders.provider_nodes name r e) (commits name r e))
  where
    by : (kind : Kind) → IsOfKind before r.name r.provider.directory kind → CommittedBy said r kind → AreWritesOf before said r.name r.provider.directory.history r.provider.directory.writes
    by Root is committed = inl record { suffix = r.provider.directory.suffix; later = is.later; declared = is.declared; accepted = is.accepted }
    by Replica is committed =
        inr record {
          source = is.source;
          search = is.search;
          reload = is.reload;
          later = is.later;
          declared = is.declared;
          commits = committed.commits;
          counted = committed.counted;
          each = committed.each;
        }

of_root : (before : List Order) (state : WorldState) (search : Search) (entries : List Entry) (origin : Origin) → ByOrders before state → IsRooted state.provider_nodes search entries origin → IsOfRoot before search entries origin
of_root before state search entries origin orders is =
    let r = is.provider_node in
    let d = r.provider.directory in
    let root : IsOfKind before r.name d Root = subst (IsOfKind before r.name d) is.root (orders.provider_nodes origin.root r is.there) in
    let here : IsRoot before origin.root d.history d.suffix d.writes = subst (λ x. IsRoot before x d.history d.suffix d.writes) (sym (provider_node_name state.provider_nodes origin.root r is.there)) root in
    record {
      history = d.history;
      writes = d.writes;
      accepted = record { suffix = d.suffix; later = here.later; declared = here.declared; accepted = here.accepted };
      prefix = is.prefix;
      exactly = is.exactly;
    }

-- entries that come from a prefix of a root's writes come from one of those that the orders have
pub of_root_some : (before : List Order) (state : WorldState) (search : Search) (entries : List Entry) (origin : Option Origin) → ByOrders before state → IfSome origin (IsRooted state.provider_nodes search entries) → IfSome origin (IsOfRoot before search entries)
of_root_some before state search entries None orders is = is
of_root_some before state search entries (Some origin) orders is = of_root before state search entries origin orders is
