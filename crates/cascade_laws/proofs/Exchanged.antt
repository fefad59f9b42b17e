-- What holds of the nodes after a part of an event that a consumer went through with its provider.
use Rattle.std.proofs.Common.{◌≡◌, ◌≢◌, ◌<◌, ◌≤◌, ℕ, false, Option, Some, List, [], ◌∷◌, ◌++◌, length, take, refl, ap, sym, subst, ◌∙◌, inl, inr, arith, append-nil}
use Rattle.std.proofs.lemmas.Bool.{cases_Bool, both_ways}
use Rattle.std.proofs.lemmas.List.Concat.{flat_map-cons}
use Rattle.std.proofs.lemmas.List.Sums.{fold-append}
use Rattle.std.specs.List.{fold}
use Rattle.std.specs.Prelude.{◌⊎◌, Ok, Err, IfSome, option_map}
use Rattle.std.specs.Str.{bytes_eq}
use Rattle.dn_names.specs.Names.{TypeAndValue}
use Rattle.entry_tree.specs.Selection.{Search, select}
use Rattle.entry_tree.specs.declared.entry.Entry.{Entry}
use Rattle.entry_tree.specs.declared.op.Write.{Write}
use Rattle.entry_tree.proofs.NameKeys.{same_bytes}
use Rattle.directory_writes.specs.Directory.{DirectoryState, entries_after}
use Rattle.directory_writes.proofs.Promised.{IsPromised, PromisesLast}
use Rattle.cascade_nodes.specs.declared.node.ProviderNode.{ProviderNode}
use Rattle.cascade_nodes.specs.declared.node.ConsumerNode.{ConsumerNode}
use Rattle.cascade_nodes.proofs.Fed.{AreApart}
use Rattle.cascade_report.specs.declared.notes.Origin.{Origin}
use Rattle.cascade_world.specs.Cookies.{held_cookie}
use Rattle.cascade_world.specs.Exchange.{Agreement, ExchangeOutcome, agreement_of, is_busy, respecs}
use Rattle.cascade_laws.specs.Headline.{Known, nothing_known, known_after, known_of, stored_by, stored_of}
use Rattle.cascade_world.specs.Nodes.{source_of}
use Rattle.cascade_world.specs.Origins.{origin_of}
use Rattle.cascade_world.specs.ReportLines.{Storing, ReportLine}
use Rattle.cascade_world.specs.ReportLines.ReportLine.{Wrote, Opened, Refused, Sent, Taken, Stored, Ended, Faulted, Cut, Nothing, Settled, Holds, Clocked, Shown}
use Rattle.cascade_world.specs.World.{WorldState, with_provider, with_consumer_node, with_pair, lineage_of}
use Rattle.cascade_exchange.proofs.Exchanging.{Alters, Keeps}
use Rattle.cascade_exchange.proofs.Owns.{OwnsNew}
use Rattle.cascade_laws.proofs.Feeding.{IsSource, IsFed, Promises, Frame, frame_of, IsRightOf, LineIsRightOf, LinesAreRightOf, KeepsOthers, known_then, IsKept, IsRespecced}
use Rattle.cascade_world.proofs.Finding.{IsChanged, found_after, found_still, provider_nodes_by, provider_node_name, consumer_nodes_by, consumer_node_name, provider_changed, consumer_node_changed}
use Rattle.cascade_laws.proofs.Growing.{Grows, AllBecome, AllBeen, become_changed, been_changed, source_now, sources_changed, numbered_grown, manned_grown, rooted_grown, promises_grown, fed_by, consumer_node_still, committer_still, IsSameProviderNode, committer_same}
use Rattle.cascade_laws.proofs.Rooting.{origin_rooted}
use Rattle.cascade_laws.proofs.Saying.{left_by_other, time_reported, clock_more, stored_more}
use Rattle.cascade_world.proofs.SameNames.{itself, other_way}
use Rattle.cascade_world.proofs.Climbing.{all_climb_same}
use Rattle.cascade_world.proofs.Owning.{owned_done}
use Rattle.cascade_world.proofs.Lists.{length-first_changed}
use Rattle.cascade_laws.proofs.Tracking.{IsCommitter, AreCommitters, AreCommittersBut, IsConsumerNode, AreConsumerNodes, AllApart, IsRooted, AreRooted, Feeds}

flipped : (f g : ConsumerNode) → AreApart f g → AreApart g f
flipped f g apart = λ at left right. apart at right left

-- ---- what was done

-- what a part of an event keeps and reports, whatever is wanted after it
pub record IsDone (number : ℕ) (suffix : List (List TypeAndValue)) (before after : Agreement) (lines : List ReportLine) (known : Known) : Type 0 where
  pub source : IsSource number suffix after.provider
  pub fed : IsFed number after.provider after.consumer_node (known_then before known lines)
  pub right : LinesAreRightOf number (frame_of before) known lines
  pub staged : LinesAreRightOf number (record (frame_of before) { spec = after.consumer_node.consumer.spec }) known lines
  pub others : KeepsOthers number before after
  pub owns : OwnsNew before after
  pub elsewhere : (other : ℕ) (writes : List Write) → 1 ≤ other → other ≤ 16 → other ≢ number → Promises other before.consumer_node.consumer.spec writes known
      → Promises other after.consumer_node.consumer.spec writes (known_then before known lines)

-- what a part keeps holds of what was done
pub done_kept : (number : ℕ) (suffix : List (List TypeAndValue)) (before after : Agreement) (lines : List ReportLine) (known : Known) → IsKept number suffix before after lines known → Keeps before after lines → IsDone number suffix before after lines known
done_kept number suffix before after lines known kept keeps = record {
  source = kept.source;
  fed = kept.fed;
  right = kept.right;
  staged = subst (λ s. LinesAreRightOf number (record (frame_of before) { spec = s }) known lines) (sym keeps.spec) kept.right;
  others = kept.others;
  owns = kept.owns;
  elsewhere = λ other writes first small differs was. subst (λ s. Promises other s writes (known_then before known lines)) (sym keeps.spec) (kept.elsewhere other writes first small differs was);
}

-- nothing is stored where something else is wanted
abbrev StagedIn : ℕ → Frame → Known → ExchangeOutcome → Type 0
StagedIn number frame known (Ok next) = LinesAreRightOf number frame known next.1
StagedIn number frame known (Err cause) = Unit {0}

respecs_staged : (number : ℕ) (frame : Frame) (known : Known) (search : Search) (pair : Agreement) → StagedIn number frame known (respecs search pair)
respecs_staged number frame known search pair =
    elim (cases_Bool (is_busy pair.consumer_node)) [
      | inl busy ↦ rw busy (tt, (tt, tt))
      | inr free ↦ rw free (tt, tt)
    ]

-- so does what it keeps where something else is wanted then
pub done_respecced : (number : ℕ) (suffix : List (List TypeAndValue)) (search : Search) (before after : Agreement) (lines : List ReportLine) (known : Known) → IsRespecced number suffix search before after lines known
    → respecs search before ≡ Ok (after, lines) → IsDone number suffix before after lines known
done_respecced number suffix search before after lines known is e =
    let known' = known_then before known lines in
    let frame : Frame = record (frame_of before) { spec = after.consumer_node.consumer.spec } in
    record {
      source = is.source;
      fed = is.fed;
      right = is.right;
      staged = subst (StagedIn number frame known) e (respecs_staged number frame known search before);
      others = is.others;
      owns = is.owns;
      elsewhere = λ other writes first small differs was. subst (λ c. IsPromised other after.consumer_node.consumer.spec writes known'.entries (held_cookie c)) (sym is.none) tt;
    }

-- ---- its lines

-- a line that is right of a consumer sets no clock
pub no_time : (number : ℕ) (frame : Frame) (known : Known) (line : ReportLine) → LineIsRightOf number frame known line → (time : ℕ) → time_reported time line ≡ time
no_time number frame known (Wrote name code writes) is time = refl
no_time number frame known (Opened name persists writes) is time = refl
no_time number frame known (Refused name persists code) is time = refl
no_time number frame known (Sent name message) is time = refl
no_time number frame known (Taken name) is time = refl
no_time number frame known (Stored name stored) is time = refl
no_time number frame known (Ended name code) is time = refl
no_time number frame known (Faulted name fault) is time = refl
no_time number frame known (Cut name) is time = refl
no_time number frame known (Nothing name) is time = refl
no_time number frame known (Settled name writes) is time = refl
no_time number frame known (Holds name cookie) is time = refl
no_time number frame known (Clocked new) is time = absurd is
no_time number frame known (Shown name entries) is time = refl

-- nor do some of them
pub no_times : (number : ℕ) (frame : Frame) (known : Known) (lines : List ReportLine) → LinesAreRightOf number frame known lines → (time : ℕ) → fold time_reported time lines ≡ time
no_times number frame known [] is time = refl
no_times number frame known (line ∷ lines) is time =
    ap (λ t. fold time_reported t lines) (no_time number frame known line is.0 time) ∙ no_times number frame (known_after frame.name known line) lines is.1 time

abbrev RootsIn : List ProviderNode → ℕ → Frame → Type 0
RootsIn provider_nodes number frame =
    (n : ℕ) → n ≤ length frame.writes
    → IfSome (origin_of frame.kind frame.lineage frame.spec n) (IsRooted provider_nodes frame.spec (select frame.spec (entries_after number (take n frame.writes))))

stored_rooted : (provider_nodes : List ProviderNode) (number : ℕ) (frame : Frame) (known : Known) (stored : Storing) → RootsIn provider_nodes number frame → IsRightOf number frame known stored → IfSome stored.origin (IsRooted provider_nodes stored.search stored.entries)
stored_rooted provider_nodes number frame known stored roots is =
    let P : Search → Type 0 = λ s. IfSome (origin_of frame.kind frame.lineage frame.spec stored.number) (IsRooted provider_nodes s (select frame.spec (entries_after number (take stored.number frame.writes)))) in
    let Q : List Entry → Type 0 = λ es. IfSome (origin_of frame.kind frame.lineage frame.spec stored.number) (IsRooted provider_nodes stored.search es) in
    let R : Option Origin → Type 0 = λ o. IfSome o (IsRooted provider_nodes stored.search stored.entries) in
    subst R (sym is.from) (subst Q (sym is.exactly) (subst P (sym is.wanted) (roots stored.number is.prefix)))

line_rooted : (provider_nodes : List ProviderNode) (number : ℕ) (frame : Frame) (known : Known) (node : List ℕ) (line : ReportLine) → RootsIn provider_nodes number frame → LineIsRightOf number frame known line → AreRooted provider_nodes (stored_by node line)
line_rooted provider_nodes number frame known node (Wrote name code writes) roots is = tt
line_rooted provider_nodes number frame known node (Opened name persists writes) roots is = tt
line_rooted provider_nodes number frame known node (Refused name persists code) roots is = tt
line_rooted provider_nodes number frame known node (Sent name message) roots is = tt
line_rooted provider_nodes number frame known node (Taken name) roots is = tt
line_rooted provider_nodes number frame known node (Stored name stored) roots is =
    elim (cases_Bool (bytes_eq name node)) [
      | inl hit ↦ rw hit (stored_rooted provider_nodes number frame known stored roots is.1, tt)
      | inr miss ↦ rw miss tt
    ]
line_rooted provider_nodes number frame known node (Ended name code) roots is = tt
line_rooted provider_nodes number frame known node (Faulted name fault) roots is = tt
line_rooted provider_nodes number frame known node (Cut name) roots is = tt
line_rooted provider_nodes number frame known node (Nothing name) roots is = tt
line_rooted provider_nodes number frame known node (Settled name writes) roots is = tt
line_rooted provider_nodes number frame known node (Holds name cookie) roots is = tt
line_rooted provider_nodes number frame known node (Clocked time) roots is = tt
line_rooted provider_nodes number frame known node (Shown name entries) roots is = tt

rooted-append : (provider_nodes : List ProviderNode) (one more : List Storing) → AreRooted provider_nodes one → AreRooted provider_nodes more → AreRooted provider_nodes (one ++ more)
rooted-append provider_nodes [] more h k = k
rooted-append provider_nodes (s ∷ one) more h k = (h.0, rooted-append provider_nodes one more h.1 k)

lines_rooted : (provider_nodes : List ProviderNode) (number : ℕ) (frame : Frame) (known : Known) (node : List ℕ) (lines : List ReportLine) → RootsIn provider_nodes number frame → LinesAreRightOf number frame known lines → AreRooted provider_nodes (stored_of node lines)
lines_rooted provider_nodes number frame known node [] roots is = tt
lines_rooted provider_nodes number frame known node (line ∷ lines) roots is =
    subst (AreRooted provider_nodes) (sym (flat_map-cons (stored_by node) line lines))
    (rooted-append provider_nodes (stored_by node line) (stored_of node lines) (line_rooted provider_nodes number frame known node line roots is.0)
    (lines_rooted provider_nodes number frame (known_after frame.name known line) node lines roots is.1))

-- ---- the consumers

-- what its lines have reported
known_done : (name now : List ℕ) (said lines : List ReportLine) → now ≡ name → fold (known_after name) (known_of name said) lines ≡ known_of now (said ++ lines)
known_done name now said lines same = sym (fold-append (known_after name) nothing_known said lines) ∙ ap (λ n. known_of n (said ++ lines)) (sym same)

apart_done : (consumer_nodes next : List ConsumerNode) (name : List ℕ) (f after : ConsumerNode) → IsChanged (consumer_nodes_by consumer_nodes) (consumer_nodes_by next) name after → after.source ≡ f.source
    → ((other : List ℕ) (g : ConsumerNode) → consumer_nodes_by consumer_nodes other ≡ Some g → bytes_eq other name ≡ false → g.source ≡ f.source → AreApart after g) → AllApart consumer_nodes → AllApart next
apart_done consumer_nodes next name f after changed same others is = λ n m g h e e' apart alike.
    elim (found_after (consumer_nodes_by consumer_nodes) (consumer_nodes_by next) name after changed n g e) [
      | inl here ↦
          elim (found_after (consumer_nodes_by consumer_nodes) (consumer_nodes_by next) name after changed m h e') [
            | inl here' ↦ λ at left right. both_ways (bytes_eq m n) apart (ap (λ x. bytes_eq x n) here'.0 ∙ ap (bytes_eq name) here.0 ∙ itself name)
            | inr was' ↦
                let source : h.source ≡ f.source = sym alike ∙ ap (λ (x : ConsumerNode). x.source) (sym here.1) ∙ same in
                subst (λ x. AreApart x h) here.1 (others m h was'.1 was'.0 source)
          ]
      | inr was ↦
          elim (found_after (consumer_nodes_by consumer_nodes) (consumer_nodes_by next) name after changed m h e') [
            | inl here' ↦
                let source : g.source ≡ f.source = alike ∙ ap (λ (x : ConsumerNode). x.source) (sym here'.1) ∙ same in
                flipped h g (subst (λ x. AreApart x g) here'.1 (others n g was.1 was.0 source))
            | inr was' ↦ is n m g h was.1 was'.1 apart alike
          ]
    ]

module _ (lasts : PromisesLast) (wants : Search → Search) (said : List ReportLine) (state : WorldState) (f : ConsumerNode) (r : ProviderNode) (after : Agreement) (lines : List ReportLine) (e : consumer_nodes_by state.consumer_nodes f.name ≡ Some f)
    (e' : provider_nodes_by state.provider_nodes f.source ≡ Some r)
    (done : IsDone r.provider.directory.history r.provider.directory.suffix (agreement_of r.provider f (lineage_of state r)) after lines (known_of f.name said)) (keeps : Alters wants (agreement_of r.provider f (lineage_of state r)) after lines)
    (is : Feeds said state) (commits : AreCommitters said state.provider_nodes) where
  abbrev pub now : ProviderNode
  now = record r { provider = after.provider }

  abbrev pub next : List ProviderNode
  next = with_provider after.consumer_node.source after.provider state.provider_nodes

  abbrev pub next' : List ConsumerNode
  next' = with_consumer_node after.consumer_node.name after.consumer_node state.consumer_nodes

  abbrev pub known' : Known
  known' = fold (known_after f.name) (known_of f.name said) lines

  -- its provider alone changed
  pub pair_changed : IsChanged (provider_nodes_by state.provider_nodes) (provider_nodes_by next) f.source now
  pair_changed =
      subst (λ n. IsChanged (provider_nodes_by state.provider_nodes) (provider_nodes_by (with_provider n after.provider state.provider_nodes)) f.source now) (sym keeps.source)
      (provider_changed state.provider_nodes f.source r after.provider e')

  -- and its consumer
  pub pair_followed : IsChanged (consumer_nodes_by state.consumer_nodes) (consumer_nodes_by next') f.name after.consumer_node
  pair_followed =
      subst (λ n. IsChanged (consumer_nodes_by state.consumer_nodes) (consumer_nodes_by (with_consumer_node n after.consumer_node state.consumer_nodes)) f.name after.consumer_node) (sym keeps.name)
      (consumer_node_changed state.consumer_nodes f.name f after.consumer_node e keeps.name)

  same : IsSameProviderNode r now
  same = record {
    name = refl;
    kind = keeps.kind;
    history = ap (λ (d : DirectoryState). d.history) keeps.directory;
    suffix = ap (λ (d : DirectoryState). d.suffix) keeps.directory;
    writes = ap (λ (d : DirectoryState). d.writes) keeps.directory;
    notes = refl;
  }

  grows : Grows r now
  grows = record { name = refl; kind = same.kind; history = same.history; suffix = same.suffix; later = []; grown = same.writes ∙ sym (append-nil r.provider.directory.writes) }

  -- each provider is still there, perhaps with more writes
  pub pair_becomes : AllBecome (provider_nodes_by state.provider_nodes) (provider_nodes_by next)
  pair_becomes = become_changed (provider_nodes_by state.provider_nodes) (provider_nodes_by next) f.source r now e' pair_changed grows

  been : AllBeen (provider_nodes_by state.provider_nodes) (provider_nodes_by next)
  been = been_changed (provider_nodes_by state.provider_nodes) (provider_nodes_by next) f.source r now e' pair_changed grows

  then' : known' ≡ known_of after.consumer_node.name (said ++ lines)
  then' = known_done f.name after.consumer_node.name said lines keeps.name

  -- the consumer
  fed' : IsFed now.provider.directory.history after.provider after.consumer_node known'
  fed' = subst (λ n. IsFed n after.provider after.consumer_node known') (sym same.history) done.fed

  promised' : (n : List ℕ) (s : ProviderNode) → provider_nodes_by next n ≡ Some s → Promises s.provider.directory.history after.consumer_node.consumer.spec s.provider.directory.writes known'
  promised' n s found =
      elim (found_after (provider_nodes_by state.provider_nodes) (provider_nodes_by next) f.source now pair_changed n s found) [
        | inl at ↦
            let own : Promises now.provider.directory.history after.consumer_node.consumer.spec now.provider.directory.writes known' =
            subst (λ c. IsPromised now.provider.directory.history after.consumer_node.consumer.spec now.provider.directory.writes known'.entries (held_cookie c)) fed'.cookie fed'.promised in
            subst (λ (x : ProviderNode). Promises x.provider.directory.history after.consumer_node.consumer.spec x.provider.directory.writes known') at.1 own
        | inr was ↦
            let source = is.sources n s was.1 in
            let differs : s.provider.directory.history ≢ r.provider.directory.history =
            λ alike. both_ways (bytes_eq n f.source) was.0 (ap (bytes_eq n) (sym (is.numbered.apart n f.source s r was.1 e' alike)) ∙ itself n) in
            done.elsewhere s.provider.directory.history s.provider.directory.writes source.first source.small differs ((is.consumer_nodes f.name f e).promised n s was.1)
      ]

  undeclared' : (number : ℕ) → state.nodes < number → number ≤ 16 → Promises number after.consumer_node.consumer.spec [] known'
  undeclared' number above low =
      let within = is.numbered.within f.source r e' in
      let differs : number ≢ r.provider.directory.history = λ alike. let low' : number ≤ state.nodes = subst (λ n. n ≤ state.nodes) (sym alike) within in let never : ⊥ = omega (arith, above, low') in never in
      done.elsewhere number [] (omega (arith, above)) low differs ((is.consumer_nodes f.name f e).undeclared number above low)

  mine : IsConsumerNode (said ++ lines) state.nodes next after.consumer_node
  mine = record {
    provider_node = now;
    there = ap (provider_nodes_by next) keeps.source ∙ pair_changed.here;
    fed = subst (IsFed now.provider.directory.history after.provider after.consumer_node) then' fed';
    promised = λ n s found. subst (Promises s.provider.directory.history after.consumer_node.consumer.spec s.provider.directory.writes) then' (promised' n s found);
    undeclared = λ number above low. subst (Promises number after.consumer_node.consumer.spec []) then' (undeclared' number above low);
  }

  -- the others
  other_fed : (other : List ℕ) (g : ConsumerNode) → consumer_nodes_by state.consumer_nodes other ≡ Some g → bytes_eq other f.name ≡ false → g.source ≡ f.source
      → IsFed r.provider.directory.history after.provider g (known_of g.name said) × AreApart after.consumer_node g
  other_fed other g there differs alike =
      done.others g (known_of g.name said) (fed_by said state.nodes state.provider_nodes f.source r g e' alike (is.consumer_nodes other g there)) (is.apart f.name other f g e there differs (sym alike))

  other_done : (other : List ℕ) (g : ConsumerNode) → consumer_nodes_by state.consumer_nodes other ≡ Some g → bytes_eq other f.name ≡ false → IsConsumerNode said state.nodes next g
  other_done other g there differs =
      let was = is.consumer_nodes other g there in
      let promised = promises_grown lasts state.provider_nodes next g.consumer.spec (known_of g.name said) been was.promised in
      elim (cases_Bool (bytes_eq g.source f.source)) [
        | inl hit ↦
            let alike : g.source ≡ f.source = same_bytes g.source f.source hit in
            record {
              provider_node = now;
              there = ap (provider_nodes_by next) alike ∙ pair_changed.here;
              fed = subst (λ n. IsFed n after.provider g (known_of g.name said)) (sym same.history) (other_fed other g there differs alike).0;
              promised = promised;
              undeclared = was.undeclared;
            }
        | inr miss ↦
            record {
              provider_node = was.provider_node;
              there = pair_changed.others g.source miss ∙ was.there;
              fed = was.fed;
              promised = promised;
              undeclared = was.undeclared;
            }
      ]

  consumer_nodes_done : AreConsumerNodes (said ++ lines) state.nodes next next'
  consumer_nodes_done n g found =
      elim (found_after (consumer_nodes_by state.consumer_nodes) (consumer_nodes_by next') f.name after.consumer_node pair_followed n g found) [
        | inl at ↦ subst (IsConsumerNode (said ++ lines) state.nodes next) at.1 mine
        | inr was ↦
            let differs : bytes_eq f.name g.name ≡ false =
            ap (bytes_eq f.name) (sym (consumer_node_name state.consumer_nodes n g was.1)) ∙ other_way n f.name was.0 in
            consumer_node_still said lines state.nodes next g (left_by_other g.name f.name lines differs keeps.own) (other_done n g was.1 was.0)
      ]

  sources_same : (n : List ℕ) → source_of next' n ≡ source_of state.consumer_nodes n
  sources_same n =
      elim (cases_Bool (bytes_eq n f.name)) [
        | inl hit ↦
            let alike : n ≡ f.name = same_bytes n f.name hit in
            let was : consumer_nodes_by state.consumer_nodes n ≡ Some f = ap (consumer_nodes_by state.consumer_nodes) alike ∙ e in
            let new : consumer_nodes_by next' n ≡ Some after.consumer_node = ap (consumer_nodes_by next') alike ∙ pair_followed.here in
            ap (option_map (λ (g : ConsumerNode). g.source)) new ∙ ap Some keeps.source ∙ sym (ap (option_map (λ (g : ConsumerNode). g.source)) was)
        | inr miss ↦ ap (option_map (λ (g : ConsumerNode). g.source)) (pair_followed.others n miss)
      ]

  rooted_done : (n : List ℕ) → AreRooted next (stored_of n (said ++ lines))
  rooted_done n =
      let roots : RootsIn state.provider_nodes r.provider.directory.history (frame_of (agreement_of r.provider f (lineage_of state r))) =
      λ m low. origin_rooted said state f.source r f.consumer.spec m is commits e' low in
      rooted_grown state.provider_nodes next pair_becomes (stored_of n (said ++ lines))
      (subst (AreRooted state.provider_nodes) (sym (stored_more n said lines))
      (rooted-append state.provider_nodes (stored_of n said) (stored_of n lines) (is.rooted n)
      (lines_rooted state.provider_nodes r.provider.directory.history (frame_of (agreement_of r.provider f (lineage_of state r))) (known_of f.name said) n lines roots done.right)))

  -- each consumer is fed by its provider once this one and its provider are put back into the world
  pub pair_feeds : Feeds (said ++ lines) (with_pair state after)
  pair_feeds = record {
    clock = is.clock ∙ sym (clock_more said lines (no_times r.provider.directory.history (frame_of (agreement_of r.provider f (lineage_of state r))) (known_of f.name said) lines done.right));
    few = is.few;
    counted = omega (arith, length_changed, is.counted);
    sources = sources_changed state.provider_nodes next f.source now pair_changed (source_now r.provider.directory.history r.provider.directory.suffix after.provider done.source) is.sources;
    numbered = numbered_grown state.nodes state.provider_nodes next been is.numbered;
    consumer_nodes = consumer_nodes_done;
    apart = apart_done state.consumer_nodes next' f.name f after.consumer_node pair_followed keeps.source (λ other g there differs alike. (other_fed other g there differs alike).1) is.apart;
    owned = owned_done state.provider_nodes next state.consumer_nodes next' f.name f r (lineage_of state r) after e e' pair_changed pair_followed keeps.source done.owns is.owned;
    manned = manned_grown state.provider_nodes next state.consumer_nodes next' been (found_still (consumer_nodes_by state.consumer_nodes) (consumer_nodes_by next') f.name f after.consumer_node e pair_followed) is.manned;
    climbs = all_climb_same state.consumer_nodes next' sources_same is.climbs;
    rooted = rooted_done;
  }
    where
      length_changed : length next' ≡ length state.consumer_nodes
      length_changed = length-first_changed _ _ state.consumer_nodes

  -- but for what the consumer's own directory commits
  pub pair_commits : AreCommittersBut f.name (said ++ lines) next
  pair_commits n s found differs =
      let b = found_after (provider_nodes_by state.provider_nodes) (provider_nodes_by next) f.source now pair_changed n s found in
      let was : IsCommitter said s = by s b in
      let apart : bytes_eq f.name s.name ≡ false = ap (bytes_eq f.name) (sym (provider_node_name next n s found)) ∙ other_way n f.name differs in
      committer_still said lines s (left_by_other s.name f.name lines apart keeps.own) was
    where
      by : (x : ProviderNode) → ((n ≡ f.source) × (now ≡ x)) ⊎ ((bytes_eq n f.source ≡ false) × (provider_nodes_by state.provider_nodes n ≡ Some x)) → IsCommitter said x
      by x (inl at) = subst (IsCommitter said) at.1 (committer_same said r now same (commits f.source r e'))
      by x (inr there) = commits n x there.1
