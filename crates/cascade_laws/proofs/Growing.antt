-- What holds of the nodes where providers have more writes, or more is reported.
use Rattle.std.proofs.Common.{◌≡◌, ◌+◌, ◌≤◌, ℕ, Bool, true, false, Option, Some, None, List, [], ◌∷◌, ◌++◌, length, take, refl, ap, sym, subst, ◌∙◌, inl, inr, arith, append-nil, append_assoc, length-append, add-zero}
use Rattle.std.proofs.lemmas.Bool.{cases_Bool}
use Rattle.std.proofs.lemmas.List.Sums.{sum_by-append}
use Rattle.std.specs.Prelude.{count_by, is_some, IfSome, map, slice_get}
use Rattle.std.specs.Str.{bytes_eq}
use Rattle.std.proofs.lemmas.List.{take-append-le}
use Rattle.dn_names.specs.Names.{TypeAndValue}
use Rattle.entry_tree.specs.Selection.{Search, select}
use Rattle.entry_tree.specs.declared.entry.Entry.{Entry}
use Rattle.entry_tree.specs.declared.op.Write.{Write}
use Rattle.entry_tree.proofs.NameKeys.{same_bytes}
use Rattle.directory_writes.specs.Directory.{DirectoryState, entries_after}
use Rattle.directory_writes.proofs.Promised.{PromisesLast}
use Rattle.sync_provider.specs.Machine.{ProviderState}
use Rattle.sync_provider.specs.declared.provider.Kind.{Kind}
use Rattle.sync_provider.specs.declared.provider.Kind.TheVariants.{Root, Replica}
use Rattle.cascade_nodes.specs.declared.node.ProviderNode.{ProviderNode}
use Rattle.cascade_nodes.specs.declared.node.ConsumerNode.{ConsumerNode}
use Rattle.cascade_report.specs.declared.notes.Origin.{Origin}
use Rattle.cascade_world.specs.Cookies.{held_cookie}
use Rattle.cascade_laws.specs.Headline.{Known, known_of, stored_of}
use Rattle.cascade_world.specs.Origins.{CommitOrigin}
use Rattle.cascade_world.specs.ReportLines.{Storing, ReportLine}
use Rattle.cascade_world.specs.World.{WorldState, provider_node_named}
use Rattle.cascade_laws.proofs.Feeding.{IsSource, IsFed, Promises, KeepsAll}
use Rattle.cascade_world.proofs.Finding.{IsChanged, found_after, provider_nodes_by, same_provider_node, consumer_nodes_by}
use Rattle.cascade_laws.proofs.Saying.{IsLeft, known_still, stored_still, commits_still, clock_reported}
use Rattle.cascade_world.proofs.Owning.{owned_changed}
use Rattle.cascade_laws.proofs.Tracking.{HasCommitted, CommittedBy, IsCommitter, AreCommitters, AreCommittersBut, AreSources, AreNumbered, noted, IsConsumerNode, IsManned, AreManned, IsRooted, AreRooted, Feeds}

-- ---- orders are counted

-- one more that passes the test is counted
pub count_more : {X : Type 0} (test : X → Bool) (xs : List X) (x : X) → test x ≡ true → count_by test (xs ++ x ∷ []) ≡ count_by test xs + 1
count_more test xs x hit = sum_by-append _ xs (x ∷ []) ∙ rw hit refl

-- one that fails it is not
pub count_same : {X : Type 0} (test : X → Bool) (xs : List X) (x : X) → test x ≡ false → count_by test (xs ++ x ∷ []) ≡ count_by test xs
count_same test xs x miss = sum_by-append _ xs (x ∷ []) ∙ rw miss (add-zero (count_by test xs))

-- ---- providers with more writes

-- the same node, with the writes that it had and maybe more
pub record Grows (r s : ProviderNode) : Type 0 where
  pub name : s.name ≡ r.name
  pub kind : s.provider.kind ≡ r.provider.kind
  pub history : s.provider.directory.history ≡ r.provider.directory.history
  pub suffix : s.provider.directory.suffix ≡ r.provider.directory.suffix
  pub later : List Write
  pub grown : s.provider.directory.writes ≡ r.provider.directory.writes ++ later

-- a provider has the writes that it has
pub grows_itself : (r : ProviderNode) → Grows r r
grows_itself r = record { name = refl; kind = refl; history = refl; suffix = refl; later = []; grown = sym (append-nil r.provider.directory.writes) }

-- by a change that keeps all
pub grows_kept : (r s : ProviderNode) → s.name ≡ r.name → KeepsAll r.provider.directory.history r.provider.directory.suffix r.provider s.provider → Grows r s
grows_kept r s same kept = record {
  name = same;
  kind = kept.kind;
  history = ap (λ (d : DirectoryState). d.history) kept.source.directory;
  suffix = ap (λ (d : DirectoryState). d.suffix) kept.source.directory;
  later = kept.later;
  grown = kept.grown;
}

-- what a provider has become
pub record HasBecome (new : List ℕ → Option ProviderNode) (name : List ℕ) (r : ProviderNode) : Type 0 where
  pub now : ProviderNode
  pub there : new name ≡ Some now
  pub grows : Grows r now

-- what it was
pub record HasBeen (old : List ℕ → Option ProviderNode) (name : List ℕ) (s : ProviderNode) : Type 0 where
  pub was : ProviderNode
  pub there : old name ≡ Some was
  pub grows : Grows was s

abbrev pub AllBecome : (old new : List ℕ → Option ProviderNode) → Type 0
AllBecome old new = (name : List ℕ) (r : ProviderNode) → old name ≡ Some r → HasBecome new name r

abbrev pub AllBeen : (old new : List ℕ → Option ProviderNode) → Type 0
AllBeen old new = (name : List ℕ) (s : ProviderNode) → new name ≡ Some s → HasBeen old name s

-- where one provider has more writes and the others stay, each has become what it was or more
pub become_changed : (old new : List ℕ → Option ProviderNode) (name : List ℕ) (r s : ProviderNode) → old name ≡ Some r → IsChanged old new name s → Grows r s → AllBecome old new
become_changed old new name r s e changed grows other x e' =
    elim (cases_Bool (bytes_eq other name)) [
      | inl hit ↦
          let same : other ≡ name = same_bytes other name hit in
          let both : Some r ≡ Some x = sym e ∙ ap old (sym same) ∙ e' in
          let is : r ≡ x = cc in
          record { now = s; there = ap new same ∙ changed.here; grows = subst (λ y. Grows y s) is grows }
      | inr miss ↦ record { now = x; there = changed.others other miss ∙ e'; grows = grows_itself x }
    ]

-- and each that is there then was there before
pub been_changed : (old new : List ℕ → Option ProviderNode) (name : List ℕ) (r s : ProviderNode) → old name ≡ Some r → IsChanged old new name s → Grows r s → AllBeen old new
been_changed old new name r s e changed grows other x e' =
    elim (found_after old new name s changed other x e') [
      | inl here ↦ record { was = r; there = ap old here.0 ∙ e; grows = subst (Grows r) here.1 grows }
      | inr there ↦ record { was = x; there = there.1; grows = grows_itself x }
    ]

grows_both : (a b c : ProviderNode) → Grows a b → Grows b c → Grows a c
grows_both a b c first second = record {
  name = second.name ∙ first.name;
  kind = second.kind ∙ first.kind;
  history = second.history ∙ first.history;
  suffix = second.suffix ∙ first.suffix;
  later = first.later ++ second.later;
  grown = second.grown ∙ ap (λ ws. ws ++ second.later) first.grown ∙ append_assoc a.provider.directory.writes first.later second.later;
}

-- providers that stay have become what they were
pub become_itself : (old : List ℕ → Option ProviderNode) → AllBecome old old
become_itself old name r e = record { now = r; there = e; grows = grows_itself r }

-- and were what they are
pub been_itself : (old : List ℕ → Option ProviderNode) → AllBeen old old
been_itself old name s e = record { was = s; there = e; grows = grows_itself s }

-- what becomes more and then more again has become more
pub become_through : (a b c : List ℕ → Option ProviderNode) → AllBecome a b → AllBecome b c → AllBecome a c
become_through a b c first second name r e =
    let one = first name r e in
    let two = second name one.now one.there in
    record { now = two.now; there = two.there; grows = grows_both r one.now two.now one.grows two.grows }

-- ---- what that keeps

-- a source is one by its own history and suffix
pub source_now : (number : ℕ) (suffix : List (List TypeAndValue)) (q : ProviderState) → IsSource number suffix q → IsSource q.directory.history q.directory.suffix q
source_now number suffix q source = subst (λ d. IsSource d.history d.suffix q) (sym source.directory) source

-- with one source in the place of another each provider is still a source
pub sources_changed : (provider_nodes next : List ProviderNode) (name : List ℕ) (s : ProviderNode) → IsChanged (provider_nodes_by provider_nodes) (provider_nodes_by next) name s
    → IsSource s.provider.directory.history s.provider.directory.suffix s.provider → AreSources provider_nodes → AreSources next
sources_changed provider_nodes next name s changed source is other x e =
    elim (found_after (provider_nodes_by provider_nodes) (provider_nodes_by next) name s changed other x e) [
      | inl here ↦ subst (λ (y : ProviderNode). IsSource y.provider.directory.history y.provider.directory.suffix y.provider) here.1 source
      | inr there ↦ is other x there.1
    ]

-- the numbers of providers stay their own
pub numbered_grown : (nodes : ℕ) (provider_nodes next : List ProviderNode) → AllBeen (provider_nodes_by provider_nodes) (provider_nodes_by next) → AreNumbered nodes provider_nodes → AreNumbered nodes next
numbered_grown nodes provider_nodes next been is = record {
  within = λ name s e. let b = been name s e in subst (λ n. n ≤ nodes) (sym b.grows.history) (is.within name b.was b.there);
  apart =
      λ name other r s e e' same. let b = been name r e in let c = been other s e' in
      is.apart name other b.was c.was b.there c.there (sym b.grows.history ∙ same ∙ c.grows.history);
}

-- where consumers keep their names, each replica still has its consumer
pub manned_grown : (provider_nodes next : List ProviderNode) (consumer_nodes after : List ConsumerNode) → AllBeen (provider_nodes_by provider_nodes) (provider_nodes_by next)
    → ((name : List ℕ) → is_some (consumer_nodes_by after name) ≡ is_some (consumer_nodes_by consumer_nodes name)) → AreManned provider_nodes consumer_nodes → AreManned next after
manned_grown provider_nodes next consumer_nodes after been same is name s e =
    let b = been name s e in
    let P : Kind → Type 0 = λ k. IsManned k (is_some (consumer_nodes_by after name)) in
    let Q : Bool → Type 0 = λ f. IsManned b.was.provider.kind f in
    subst P (sym b.grows.kind) (subst Q (sym (same name)) (is name b.was b.there))

-- entries that came from a prefix of a root's writes still do
pub rooted_one : (provider_nodes next : List ProviderNode) → AllBecome (provider_nodes_by provider_nodes) (provider_nodes_by next) → (search : Search) (entries : List Entry) (origin : Origin) → IsRooted provider_nodes search entries origin → IsRooted next search entries origin
rooted_one provider_nodes next become search entries origin is =
    let b = become origin.root is.provider_node is.there in
    let number = is.provider_node.provider.directory.history in
    let writes = is.provider_node.provider.directory.writes in
    let now = b.now.provider.directory.writes in
    let same : take origin.number now ≡ take origin.number writes = ap (take origin.number) b.grows.grown ∙ take-append-le origin.number writes b.grows.later is.prefix in
    let long : length now ≡ length writes + length b.grows.later = ap length b.grows.grown ∙ length-append writes b.grows.later in
    record {
      provider_node = b.now;
      there = b.there;
      root = b.grows.kind ∙ is.root;
      prefix = omega (arith, long, is.prefix);
      exactly =
          is.exactly ∙ ap (λ ws. select search (entries_after number ws)) (sym same)
          ∙ ap (λ n. select search (entries_after n (take origin.number now))) (sym b.grows.history);
    }

-- so do those of all `stored` lines
pub rooted_grown : (provider_nodes next : List ProviderNode) → AllBecome (provider_nodes_by provider_nodes) (provider_nodes_by next) → (stored : List Storing) → AreRooted provider_nodes stored → AreRooted next stored
rooted_grown provider_nodes next become [] is = tt
rooted_grown provider_nodes next become (one ∷ more) is = (by one.origin is.0, rooted_grown provider_nodes next become more is.1)
  where
    by : (origin : Option Origin) → IfSome origin (IsRooted provider_nodes one.search one.entries) → IfSome origin (IsRooted next one.search one.entries)
    by None h = h
    by (Some origin) h = rooted_one provider_nodes next become one.search one.entries origin h

-- what a cookie promises of each provider
abbrev pub PromisesAll : List ProviderNode → Search → Known → Type 0
PromisesAll provider_nodes search known =
    (name : List ℕ) (r : ProviderNode) → provider_nodes_by provider_nodes name ≡ Some r → Promises r.provider.directory.history search r.provider.directory.writes known

-- what a cookie promises of a provider it promises of one with more writes
pub promises_grown : PromisesLast → (provider_nodes next : List ProviderNode) (search : Search) (known : Known) → AllBeen (provider_nodes_by provider_nodes) (provider_nodes_by next) → PromisesAll provider_nodes search known → PromisesAll next search known
promises_grown lasts provider_nodes next search known been is name s e =
    let b = been name s e in
    let number = b.was.provider.directory.history in
    let was = b.was.provider.directory.writes in
    let more : Promises number search (was ++ b.grows.later) known = lasts number search was b.grows.later known.entries (held_cookie known.cookie) (is name b.was b.there) in
    subst (λ n. Promises n search s.provider.directory.writes known) (sym b.grows.history) (subst (λ ws. Promises number search ws known) (sym b.grows.grown) more)

-- ---- one provider is changed

-- the consumer is fed by the provider that is found
pub fed_by : (said : List ReportLine) (nodes : ℕ) (provider_nodes : List ProviderNode) (name : List ℕ) (provider_node : ProviderNode) (f : ConsumerNode) → provider_nodes_by provider_nodes name ≡ Some provider_node → f.source ≡ name → IsConsumerNode said nodes provider_nodes f
    → IsFed provider_node.provider.directory.history provider_node.provider f (known_of f.name said)
fed_by said nodes provider_nodes name provider_node f e same is =
    let one : is.provider_node ≡ provider_node = same_provider_node provider_nodes f.source name is.provider_node provider_node is.there e same in
    subst (λ (r : ProviderNode). IsFed r.provider.directory.history r.provider f (known_of f.name said)) one is.fed

consumer_node_left : PromisesLast → (said : List ReportLine) (nodes : ℕ) (provider_nodes next : List ProviderNode) (name : List ℕ) (r s : ProviderNode) (f : ConsumerNode) → provider_nodes_by provider_nodes name ≡ Some r → IsChanged (provider_nodes_by provider_nodes) (provider_nodes_by next) name s
    → Grows r s → KeepsAll r.provider.directory.history r.provider.directory.suffix r.provider s.provider → IsConsumerNode said nodes provider_nodes f → IsConsumerNode said nodes next f
consumer_node_left lasts said nodes provider_nodes next name r s f e changed grows kept is =
    let known = known_of f.name said in
    let promised = promises_grown lasts provider_nodes next f.consumer.spec known (been_changed (provider_nodes_by provider_nodes) (provider_nodes_by next) name r s e changed grows) is.promised in
    elim (cases_Bool (bytes_eq f.source name)) [
      | inl hit ↦
          let same : f.source ≡ name = same_bytes f.source name hit in
          let fed = kept.fed f known (fed_by said nodes provider_nodes name r f e same is) in
          record {
            provider_node = s;
            there = ap (provider_nodes_by next) same ∙ changed.here;
            fed = subst (λ n. IsFed n s.provider f known) (sym grows.history) fed;
            promised = promised;
            undeclared = is.undeclared;
          }
      | inr miss ↦
          record {
            provider_node = is.provider_node;
            there = changed.others f.source miss ∙ is.there;
            fed = is.fed;
            promised = promised;
            undeclared = is.undeclared;
          }
    ]

-- where one provider has more writes, and its consumers are fed, each consumer is fed by its
-- provider
pub feeds_changed : PromisesLast → (said : List ReportLine) (state : WorldState) (next : List ProviderNode) (name : List ℕ) (r s : ProviderNode) → provider_node_named name state ≡ Some r → IsChanged (provider_nodes_by state.provider_nodes) (provider_nodes_by next) name s → s.name ≡ r.name
    → KeepsAll r.provider.directory.history r.provider.directory.suffix r.provider s.provider → Feeds said state → Feeds said (record state { provider_nodes = next })
feeds_changed lasts said state next name r s e changed same kept is =
    let grows = grows_kept r s same kept in
    let become = become_changed (provider_nodes_by state.provider_nodes) (provider_nodes_by next) name r s e changed grows in
    let been = been_changed (provider_nodes_by state.provider_nodes) (provider_nodes_by next) name r s e changed grows in
    record {
      clock = is.clock;
      few = is.few;
      counted = is.counted;
      sources = sources_changed state.provider_nodes next name s changed (source_now r.provider.directory.history r.provider.directory.suffix s.provider kept.source) is.sources;
      numbered = numbered_grown state.nodes state.provider_nodes next been is.numbered;
      consumer_nodes = λ n f e'. consumer_node_left lasts said state.nodes state.provider_nodes next name r s f e changed grows kept (is.consumer_nodes n f e');
      apart = is.apart;
      owned = owned_changed state.provider_nodes next state.consumer_nodes name r s e changed kept.opens is.owned;
      manned = manned_grown state.provider_nodes next state.consumer_nodes state.consumer_nodes been (λ n. refl) is.manned;
      climbs = is.climbs;
      rooted = λ n. rooted_grown state.provider_nodes next become (stored_of n said) (is.rooted n);
    }

-- ---- more lines

-- a consumer's own lines are not among them
pub consumer_node_still : (said lines : List ReportLine) (nodes : ℕ) (provider_nodes : List ProviderNode) (f : ConsumerNode) → IsLeft f.name lines → IsConsumerNode said nodes provider_nodes f → IsConsumerNode (said ++ lines) nodes provider_nodes f
consumer_node_still said lines nodes provider_nodes f left is =
    let same = sym (known_still f.name said lines left) in
    record {
      provider_node = is.provider_node;
      there = is.there;
      fed = subst (IsFed is.provider_node.provider.directory.history is.provider_node.provider f) same is.fed;
      promised = λ name r e. subst (Promises r.provider.directory.history f.consumer.spec r.provider.directory.writes) same (is.promised name r e);
      undeclared = λ number above low. subst (Promises number f.consumer.spec []) same (is.undeclared number above low);
    }

-- lines of no node's state, with which the clocks may change
pub feeds_more : (said lines : List ReportLine) (state : WorldState) (time : ℕ) → ((name : List ℕ) → IsLeft name lines) → time ≡ clock_reported (said ++ lines) → Feeds said state → Feeds (said ++ lines) (record state { clock = time })
feeds_more said lines state time left clock is = record {
  clock = clock;
  few = is.few;
  counted = is.counted;
  sources = is.sources;
  numbered = is.numbered;
  consumer_nodes = λ n f e. consumer_node_still said lines state.nodes state.provider_nodes f (left f.name) (is.consumer_nodes n f e);
  apart = is.apart;
  owned = is.owned;
  manned = is.manned;
  climbs = is.climbs;
  rooted = λ n. subst (AreRooted state.provider_nodes) (sym (stored_still n said lines (left n))) (is.rooted n);
}

-- ---- what was committed

-- with the lines of others
has_still : (number : ℕ) (said lines : List ReportLine) (name : List ℕ) (notes : List CommitOrigin) (writes : List Write) → IsLeft name lines → HasCommitted number said name notes writes → HasCommitted number (said ++ lines) name notes writes
has_still number said lines name notes writes left is =
    let same = stored_still name said lines left in
    record {
      commits = is.commits ∙ sym (commits_still number name said lines left);
      notes_are = is.notes_are ∙ ap (λ s. map noted s) (sym same);
      held = is.held ∙ ap (λ (k : Known). k.entries) (sym (known_still name said lines left));
      counted = is.counted ∙ ap length (sym same);
      each = λ at stored e. is.each at stored (ap (λ s. slice_get s at) (sym same) ∙ e);
    }

-- lines of others leave what a node has committed
pub committer_still : (said lines : List ReportLine) (s : ProviderNode) → IsLeft s.name lines → IsCommitter said s → IsCommitter (said ++ lines) s
committer_still said lines s left is = by s.provider.kind is
  where
    by : (kind : Kind) → CommittedBy said s kind → CommittedBy (said ++ lines) s kind
    by Root h = tt
    by Replica h = has_still s.provider.directory.history said lines s.name s.notes s.provider.directory.writes left h

-- the same node with the same writes and notes
pub record IsSameProviderNode (r s : ProviderNode) : Type 0 where
  pub name : s.name ≡ r.name
  pub kind : s.provider.kind ≡ r.provider.kind
  pub history : s.provider.directory.history ≡ r.provider.directory.history
  pub suffix : s.provider.directory.suffix ≡ r.provider.directory.suffix
  pub writes : s.provider.directory.writes ≡ r.provider.directory.writes
  pub notes : s.notes ≡ r.notes

-- a node with the same writes and notes has committed the same
pub committer_same : (said : List ReportLine) (r s : ProviderNode) → IsSameProviderNode r s → IsCommitter said r → IsCommitter said s
committer_same said r s same is = subst (CommittedBy said s) (sym same.kind) (by r.provider.kind is)
  where
    by : (kind : Kind) → CommittedBy said r kind → CommittedBy said s kind
    by Root h = tt
    by Replica h =
        subst (λ n. HasCommitted n said s.name s.notes s.provider.directory.writes) (sym same.history)
        (subst (λ n. HasCommitted r.provider.directory.history said n s.notes s.provider.directory.writes) (sym same.name)
        (subst (λ n. HasCommitted r.provider.directory.history said r.name n s.provider.directory.writes) (sym same.notes)
        (subst (λ n. HasCommitted r.provider.directory.history said r.name r.notes n) (sym same.writes) h)))

-- so all nodes have committed what was reported, where the lines leave it
pub committers_more : (said lines : List ReportLine) (provider_nodes : List ProviderNode) → ((name : List ℕ) → IsLeft name lines) → AreCommitters said provider_nodes → AreCommitters (said ++ lines) provider_nodes
committers_more said lines provider_nodes left is name s e = committer_still said lines s (left s.name) (is name s e)

-- one that commits is changed
pub committers_changed : (said : List ReportLine) (provider_nodes next : List ProviderNode) (name : List ℕ) (s : ProviderNode) → IsChanged (provider_nodes_by provider_nodes) (provider_nodes_by next) name s → IsCommitter said s → AreCommittersBut name said provider_nodes
    → AreCommitters said next
committers_changed said provider_nodes next name s changed now is other x e =
    elim (found_after (provider_nodes_by provider_nodes) (provider_nodes_by next) name s changed other x e) [
      | inl here ↦ subst (IsCommitter said) here.1 now
      | inr there ↦ is other x there.1 there.0
    ]

-- and all but one of them
pub committers_but : (hole : List ℕ) (said : List ReportLine) (provider_nodes : List ProviderNode) → AreCommitters said provider_nodes → AreCommittersBut hole said provider_nodes
committers_but hole said provider_nodes is name s e apart = is name s e
