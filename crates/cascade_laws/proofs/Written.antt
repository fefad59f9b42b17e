-- What holds of the nodes after a write, or a limit.
use Rattle.std.proofs.Common.{◌≡◌, ℕ, false, Option, Some, None, List, [], ◌∷◌, ◌++◌, length, refl, ap, sym, subst, ◌∙◌, inl, inr, append-nil}
use Rattle.std.specs.Str.{bytes_eq}
use Rattle.csn_cookie.specs.Csn.{CsnValue}
use Rattle.dn_names.specs.Names.{TypeAndValue}
use Rattle.schema_rules.specs.declared.raw.Change.{Change}
use Rattle.entry_tree.specs.declared.op.Op.{Op}
use Rattle.entry_tree.specs.declared.op.Write.{Write}
use Rattle.entry_tree.specs.Reading.{read_change}
use Rattle.std.specs.Prelude.{Result, Ok, Err, if◌then◌else◌}
use Rattle.ldap_constants.specs.declared.result_codes.TheConstants.{ADMIN_LIMIT_EXCEEDED}
use Rattle.directory_writes.specs.Directory.{DirectoryState, has_room, csn_of_next_write, judged_at, judged, with_judged, written}
use Rattle.directory_writes.proofs.Promised.{PromisesLast}
use Rattle.sync_provider.specs.Machine.{ProviderState, judged_by, log_limited, queue_limited}
use Rattle.sync_provider.specs.declared.provider.Kind.{Kind}
use Rattle.sync_provider.specs.declared.provider.Kind.TheVariants.{Root, Replica}
use Rattle.cascade_nodes.specs.declared.node.ProviderNode.{ProviderNode}
use Rattle.session_log.specs.Log.{Log, fresh}
use Rattle.cascade_world.specs.Directory.{logged_directory, directory_of, change_code, changed, written_read, wrote_read, wrote_change}
use Rattle.cascade_laws.specs.Headline.{time_after, time_from, with_accepted, accepted_from, is_declaration, IsDeclared, Following, followed}
use Rattle.cascade_script.specs.Orders.{Order}
use Rattle.cascade_script.specs.Orders.{Order as asks}
use Rattle.cascade_world.specs.ReportLines.{ReportLine}
use Rattle.cascade_world.specs.ReportLines.ReportLine.{Wrote}
use Rattle.cascade_world.specs.World.{WorldState, provider_node_named, with_provider, write_to, limited, limit_log, limit_queue}
use Rattle.cascade_laws.proofs.Accepted.{time_from-append, accepted_from-push, declared-push}
use Rattle.cascade_laws.proofs.Exchanges.{After}
use Rattle.cascade_laws.proofs.Feeding.{IsSource, KeepsAll, WritesAreKept, LimitsAreKept, QueuesAreKept}
use Rattle.cascade_world.proofs.Finding.{IsChanged, found_after, provider_nodes_by, provider_node_name, provider_changed}
use Rattle.cascade_world.proofs.Found as lookup
use Rattle.cascade_laws.proofs.Growing.{count_same, feeds_changed, feeds_more, committer_same, committers_changed, committers_but, committers_more}
use Rattle.cascade_laws.proofs.Ordered.{IsStill, still_changed, IsQuiet, time_still, provider_node_kept, consumers_still, strangers_still, orders_quiet}
use Rattle.cascade_laws.proofs.Saying.{IsLeft, left_by_one, left_wrote, clock_more}
use Rattle.cascade_world.proofs.SameNames.{itself, other_way}
use Rattle.cascade_laws.proofs.Tracking.{IsRoot, IsReplica, IsOfKind, IsProviderNode, AreProviderNodes, CommittedBy, IsCommitter, Feeds, Tracks}

-- the time at an order is that after those between a declaration and it
time_since : (before : List Order) (number : ℕ) (declaration : Order) (later : List Order) (is : IsDeclared before number declaration later)
    → time_after (time_from 0 is.earlier) declaration ≡ time_from 0 is.earlier → time_from 0 before ≡ time_from (time_from 0 is.earlier) later
time_since before number declaration later is still =
    ap (time_from 0) is.whole ∙ time_from-append 0 is.earlier (declaration ∷ later) ∙ ap (λ t. time_from t later) still

-- they depend on no log
judged_at_same : (number : ℕ) (suffix : List (List TypeAndValue)) (writes : List Write) (log other : Log) (op : Op) (csn : Option CsnValue)
    → judged_at (logged_directory number suffix writes log) op csn ≡ judged_at (logged_directory number suffix writes other) op csn
judged_at_same number suffix writes log other op None = refl
judged_at_same number suffix writes log other op (Some csn) = refl

judged_same : (number : ℕ) (suffix : List (List TypeAndValue)) (writes : List Write) (log other : Log) (op : Op) (now : ℕ)
    → judged (logged_directory number suffix writes log) op now ≡ judged (logged_directory number suffix writes other) op now
judged_same number suffix writes log other op now =
    ap (λ (j : Result Write ℕ). if has_room writes op then j else Err ADMIN_LIMIT_EXCEEDED)
    (judged_at_same number suffix writes log other op (csn_of_next_write (logged_directory number suffix writes log) now))

judged_writes : (number : ℕ) (suffix : List (List TypeAndValue)) (writes : List Write) (log other : Log) (judged' : Result Write ℕ)
    → (with_judged (logged_directory number suffix writes log) judged').writes ≡ (with_judged (logged_directory number suffix writes other) judged').writes
judged_writes number suffix writes log other (Ok write) = refl
judged_writes number suffix writes log other (Err code) = refl

read_writes : (number : ℕ) (suffix : List (List TypeAndValue)) (writes : List Write) (log other : Log) (now : ℕ) (read : Result Op ℕ)
    → (written_read (logged_directory number suffix writes log) now read).writes ≡ (written_read (logged_directory number suffix writes other) now read).writes
read_writes number suffix writes log other now (Ok op) =
    judged_writes number suffix writes log other (judged (logged_directory number suffix writes log) op now)
    ∙ ap (λ j. (with_judged (logged_directory number suffix writes other) j).writes) (judged_same number suffix writes log other op now)
read_writes number suffix writes log other now (Err code) = refl

changed_writes : (number : ℕ) (suffix : List (List TypeAndValue)) (writes : List Write) (log other : Log) (now : ℕ) (change : Change)
    → (changed (logged_directory number suffix writes log) now change).writes ≡ (changed (logged_directory number suffix writes other) now change).writes
changed_writes number suffix writes log other now change = read_writes number suffix writes log other now (read_change change)

-- the accepted writes after one more write
accepted_more : (number : ℕ) (suffix : List (List TypeAndValue)) (name : List ℕ) (first time : ℕ) (later : List Order) (change : Change) (d : DirectoryState)
    → d ≡ logged_directory number suffix d.writes d.log → d.writes ≡ accepted_from number suffix name first [] later → time ≡ time_from first later
    → (changed d time change).writes ≡ accepted_from number suffix name first [] (later ++ asks.Write name change ∷ [])
accepted_more number suffix name first time later change d is accepted clock =
    let order = asks.Write name change in
    let now = time_from first later in
    let writes = accepted_from number suffix name first [] later in
    let more : with_accepted number suffix name now writes order ≡ (changed (directory_of number suffix writes) now change).writes = rw (itself name) refl in
    ap (λ (x : DirectoryState). (changed x time change).writes) is
    ∙ changed_writes number suffix d.writes d.log (fresh 0) time change
    ∙ ap (λ (ws : List Write). (changed (directory_of number suffix ws) time change).writes) accepted
    ∙ ap (λ t. (changed (directory_of number suffix writes) t change).writes) clock
    ∙ sym (accepted_from-push number suffix name first [] later order ∙ more)

-- ---- what a write leaves

-- the directory of a root
root_by : (p : ProviderState) (op : Op) (now : ℕ) (kind : Kind) → kind ≡ Root → with_judged p.directory (judged_by kind p.directory op now) ≡ written p.directory op now
root_by p op now Root is = refl
root_by p op now Replica is = let never : ⊥ = cc in absurd never

root_read : (p : ProviderState) (now : ℕ) (read : Result Op ℕ) → p.kind ≡ Root → (wrote_read p now read).directory ≡ written_read p.directory now read
root_read p now (Ok op) is = root_by p op now p.kind is
root_read p now (Err code) is = refl

root_wrote : (p : ProviderState) (now : ℕ) (change : Change) → p.kind ≡ Root → (wrote_change p now change).directory ≡ changed p.directory now change
root_wrote p now change is = root_read p now (read_change change) is

-- a replica takes none
replica_by : (p : ProviderState) (op : Op) (now : ℕ) (kind : Kind) → kind ≡ Replica → with_judged p.directory (judged_by kind p.directory op now) ≡ p.directory
replica_by p op now Replica is = refl
replica_by p op now Root is = let never : ⊥ = cc in absurd never

replica_read : (p : ProviderState) (now : ℕ) (read : Result Op ℕ) → p.kind ≡ Replica → (wrote_read p now read).directory ≡ p.directory
replica_read p now (Ok op) is = replica_by p op now p.kind is
replica_read p now (Err code) is = refl

replica_wrote : (p : ProviderState) (now : ℕ) (change : Change) → p.kind ≡ Replica → (wrote_change p now change).directory ≡ p.directory
replica_wrote p now change is = replica_read p now (read_change change) is

-- ---- a provider is changed alone

-- what it has committed, where it is a replica
committer_kept : (said : List ReportLine) (r : ProviderNode) (p : ProviderState) → p.kind ≡ r.provider.kind → (r.provider.kind ≡ Replica → p.directory.writes ≡ r.provider.directory.writes) → p.directory.history ≡ r.provider.directory.history
    → p.directory.suffix ≡ r.provider.directory.suffix → IsCommitter said r → IsCommitter said (record r { provider = p })
committer_kept said r p kind writes history suffix is = by r.provider.kind refl
  where
    by : (k : Kind) → r.provider.kind ≡ k → IsCommitter said (record r { provider = p })
    by Root e = subst (CommittedBy said (record r { provider = p })) (sym (kind ∙ e)) tt
    by Replica e = committer_same said r (record r { provider = p }) (record { name = refl; kind = kind; history = history; suffix = suffix; writes = writes e; notes = refl }) is

provider_feeds : PromisesLast → (said : List ReportLine) (state : WorldState) (name : List ℕ) (r : ProviderNode) (p : ProviderState) → provider_node_named name state ≡ Some r
    → KeepsAll r.provider.directory.history r.provider.directory.suffix r.provider p → Feeds said state → Feeds said (record state { provider_nodes = with_provider name p state.provider_nodes })
provider_feeds lasts said state name r p e kept is =
    feeds_changed lasts said state (with_provider name p state.provider_nodes) name r (record r { provider = p }) e (provider_changed state.provider_nodes name r p e) refl kept is

-- ---- limits

limited_tracked : PromisesLast → (before : List Order) (order : Order) (said : List ReportLine) (state : WorldState) (name : List ℕ) (r : ProviderNode) (p : ProviderState) → provider_node_named name state ≡ Some r → IsQuiet order
    → ((consumer : List ℕ) (now : Option Following) → followed consumer now order ≡ now) → p.directory.writes ≡ r.provider.directory.writes → KeepsAll r.provider.directory.history r.provider.directory.suffix r.provider p
    → Tracks before said state → Tracks (before ++ order ∷ []) said (record state { provider_nodes = with_provider name p state.provider_nodes })
limited_tracked lasts before order said state name r p e quiet same writes kept is =
    let changed' = provider_changed state.provider_nodes name r p e in
    let next = with_provider name p state.provider_nodes in
    let history : p.directory.history ≡ r.provider.directory.history = ap (λ (d : DirectoryState). d.history) kept.source.directory in
    let suffix : p.directory.suffix ≡ r.provider.directory.suffix = ap (λ (d : DirectoryState). d.suffix) kept.source.directory in
    let still : IsStill r (record r { provider = p }) = record { name = refl; kind = kept.kind; history = history; suffix = suffix; writes = λ root. writes } in
    record {
      orders =
          orders_quiet before order state (record state { provider_nodes = next }) quiet same refl refl refl
          (still_changed (provider_nodes_by state.provider_nodes) (provider_nodes_by next) name r (record r { provider = p }) e changed' still) is.orders;
      feeds = provider_feeds lasts said state name r p e kept is.feeds;
      commits =
          committers_changed said state.provider_nodes next name (record r { provider = p }) changed' (committer_kept said r p kept.kind (λ replica. writes) history suffix (is.commits name r e))
          (committers_but name said state.provider_nodes is.commits);
    }

limit_after : PromisesLast → (before : List Order) (order : Order) (said : List ReportLine) (state : WorldState) (name : List ℕ) (change : ProviderState → ProviderState) → IsQuiet order → ((consumer : List ℕ) (now : Option Following) → followed consumer now order ≡ now)
    → ((p : ProviderState) → (change p).directory.writes ≡ p.directory.writes) → ((p : ProviderState) → IsSource p.directory.history p.directory.suffix p → KeepsAll p.directory.history p.directory.suffix p (change p))
    → Tracks before said state → After before said order (limited state name change (provider_node_named name state))
limit_after lasts before order said state name change quiet same writes kept is =
    lookup.if_found (After before said order) (limited state name change) (provider_node_named name state) tt (λ r e. (
      subst (λ s. Tracks (before ++ order ∷ []) s (record state { provider_nodes = with_provider name (change r.provider) state.provider_nodes })) (sym (append-nil said))
          (limited_tracked lasts before order said state name r (change r.provider) e quiet same (writes r.provider) (kept r.provider (is.feeds.sources name r e)) is),
      tt,
    ))

-- what holds of the nodes holds after a `log`
pub log_after : PromisesLast → LimitsAreKept → (before : List Order) (said : List ReportLine) (state : WorldState) (name : List ℕ) (limit : ℕ) → Tracks before said state → After before said (asks.Log name limit) (limit_log state name limit)
log_after lasts kept before said state name limit is =
    limit_after lasts before (asks.Log name limit) said state name (λ provider. log_limited provider limit) (record { still = λ t. refl; undeclared = refl; untouched = λ other. tt }) (λ consumer now. refl) (λ p. refl)
    (λ p source. kept p.directory.history p.directory.suffix p limit source) is

-- and after a `queue`
pub queue_after : PromisesLast → QueuesAreKept → (before : List Order) (said : List ReportLine) (state : WorldState) (name : List ℕ) (limit : ℕ) → Tracks before said state → After before said (asks.Queue name limit) (limit_queue state name limit)
queue_after lasts kept before said state name limit is =
    limit_after lasts before (asks.Queue name limit) said state name (λ provider. queue_limited provider limit) (record { still = λ t. refl; undeclared = refl; untouched = λ other. tt }) (λ consumer now. refl) (λ p. refl)
    (λ p source. kept p.directory.history p.directory.suffix p limit source) is

-- ---- a write

-- a root after a write
root_written : (before : List Order) (name : List ℕ) (number : ℕ) (suffix : List (List TypeAndValue)) (p : ProviderState) (time : ℕ) (change : Change) → p.kind ≡ Root → p.directory ≡ logged_directory number suffix p.directory.writes p.directory.log
    → time ≡ time_from 0 before → IsRoot before name number suffix p.directory.writes → IsRoot (before ++ asks.Write name change ∷ []) name number suffix (wrote_change p time change).directory.writes
root_written before name number suffix p time change root logged clock is =
    let order = asks.Write name change in
    let declaration = asks.Provider name suffix in
    let first = time_from 0 is.declared.earlier in
    let now : time ≡ time_from first is.later = clock ∙ time_since before number declaration is.later is.declared refl in
    record {
      later = is.later ++ order ∷ [];
      declared = declared-push before number declaration is.later order is.declared;
      accepted = ap (λ (d : DirectoryState). d.writes) (root_wrote p time change root) ∙ accepted_more number suffix name first time is.later change p.directory logged is.accepted now;
    }

provider_node_written : (before : List Order) (r : ProviderNode) (time : ℕ) (change : Change) → time ≡ time_from 0 before → IsSource r.provider.directory.history r.provider.directory.suffix r.provider
    → KeepsAll r.provider.directory.history r.provider.directory.suffix r.provider (wrote_change r.provider time change) → IsProviderNode before r
    → IsProviderNode (before ++ asks.Write r.name change ∷ []) (record r { provider = wrote_change r.provider time change })
provider_node_written before r time change clock source kept is = subst (IsOfKind (before ++ order ∷ []) r.name p.directory) (sym kept.kind) (by r.provider.kind refl is)
  where
    order : Order
    order = asks.Write r.name change

    p : ProviderState
    p = wrote_change r.provider time change

    number : ℕ
    number = r.provider.directory.history

    suffix : List (List TypeAndValue)
    suffix = r.provider.directory.suffix

    history : p.directory.history ≡ number
    history = ap (λ (d : DirectoryState). d.history) kept.source.directory

    suffixed : p.directory.suffix ≡ suffix
    suffixed = ap (λ (d : DirectoryState). d.suffix) kept.source.directory

    by : (kind : Kind) → r.provider.kind ≡ kind → IsOfKind before r.name r.provider.directory kind → IsOfKind (before ++ order ∷ []) r.name p.directory kind
    by Root e h =
        subst (λ n. IsRoot (before ++ order ∷ []) r.name n p.directory.suffix p.directory.writes) (sym history)
        (subst (λ s. IsRoot (before ++ order ∷ []) r.name number s p.directory.writes) (sym suffixed) (root_written before r.name number suffix r.provider time change e source.directory clock h))
    by Replica e h =
        subst (λ n. IsReplica (before ++ order ∷ []) r.name n) (sym history) (record {
          source = h.source;
          search = h.search;
          reload = h.reload;
          later = h.later ++ order ∷ [];
          declared = declared-push before number (asks.Replica r.name h.source h.search h.reload) h.later order h.declared;
        })

write_tracked : PromisesLast → (before : List Order) (said : List ReportLine) (state : WorldState) (name : List ℕ) (change : Change) (r : ProviderNode) → provider_node_named name state ≡ Some r
    → KeepsAll r.provider.directory.history r.provider.directory.suffix r.provider (wrote_change r.provider state.clock change) → Tracks before said state
    → Tracks (before ++ asks.Write name change ∷ []) said (record state { provider_nodes = with_provider name (wrote_change r.provider state.clock change) state.provider_nodes })
write_tracked lasts before said state name change r e kept is = record {
  orders = record {
    time = time_still before order state.clock (λ t. refl) is.orders.time;
    count = is.orders.count ∙ sym (count_same is_declaration before order refl);
    provider_nodes = provider_nodes;
    consumers = consumers_still before order state.consumer_nodes (λ n f e'. refl) is.orders.consumers;
    strangers = strangers_still before order state.consumer_nodes (λ n e'. refl) is.orders.strangers;
  };
  feeds = provider_feeds lasts said state name r p e kept is.feeds;
  commits =
      committers_changed said state.provider_nodes next name s changed'
      (committer_kept said r p kept.kind (λ replica. ap (λ (d : DirectoryState). d.writes) (replica_wrote r.provider state.clock change replica)) (ap (λ (d : DirectoryState). d.history) kept.source.directory)
      (ap (λ (d : DirectoryState). d.suffix) kept.source.directory) (is.commits name r e))
      (committers_but name said state.provider_nodes is.commits);
}
  where
    order : Order
    order = asks.Write name change

    p : ProviderState
    p = wrote_change r.provider state.clock change

    s : ProviderNode
    s = record r { provider = p }

    next : List ProviderNode
    next = with_provider name p state.provider_nodes

    changed' : IsChanged (provider_nodes_by state.provider_nodes) (provider_nodes_by next) name s
    changed' = provider_changed state.provider_nodes name r p e

    here : name ≡ r.name
    here = provider_node_name state.provider_nodes name r e

    provider_nodes : AreProviderNodes (before ++ order ∷ []) next
    provider_nodes n x found =
        elim (found_after (provider_nodes_by state.provider_nodes) (provider_nodes_by next) name s changed' n x found) [
          | inl at ↦
              subst (IsProviderNode (before ++ order ∷ [])) at.1
              (subst (λ m. IsProviderNode (before ++ asks.Write m change ∷ []) s) (sym here) (provider_node_written before r state.clock change is.orders.time (is.feeds.sources name r e) kept (is.orders.provider_nodes name r e)))
          | inr was ↦
              let apart : bytes_eq name x.name ≡ false = ap (bytes_eq name) (sym (provider_node_name state.provider_nodes n x was.1)) ∙ other_way n name was.0 in
              provider_node_kept before order x apart (is.orders.provider_nodes n x was.1)
        ]

-- and after a `write`
pub write_after : PromisesLast → WritesAreKept → (before : List Order) (said : List ReportLine) (state : WorldState) (name : List ℕ) (change : Change) (r : ProviderNode) → provider_node_named name state ≡ Some r → Tracks before said state
    → After before said (asks.Write name change) (write_to state name change (Some r))
write_after lasts kept before said state name change r e is =
    let p = wrote_change r.provider state.clock change in
    let line' = Wrote name (change_code r.provider state.clock change) (length p.directory.writes) in
    let all = kept r.provider.directory.history r.provider.directory.suffix r.provider state.clock change (is.feeds.sources name r e) in
    let after : WorldState = record state { provider_nodes = with_provider name p state.provider_nodes } in
    let now = write_tracked lasts before said state name change r e all is in
    let left : (other : List ℕ) → IsLeft other (line' ∷ []) = λ other. left_by_one other line' (left_wrote other name (change_code r.provider state.clock change) (length p.directory.writes)) in (
      record {
        orders = now.orders;
        feeds = feeds_more said (line' ∷ []) after state.clock left (is.feeds.clock ∙ sym (clock_more said (line' ∷ []) (λ t. refl))) now.feeds;
        commits = committers_more said (line' ∷ []) after.provider_nodes left now.commits;
      },
      (tt, tt),
    )
