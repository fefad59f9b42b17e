-- What a node's lines report is right for the orders and the lines before them.
use Rattle.std.proofs.Common.{◌≡◌, ◌≤◌, ℕ, Bool, false, Option, Some, List, [], ◌∷◌, ◌++◌, length, take, refl, ap, sym, subst, ◌∙◌, inl, inr}
use Rattle.std.specs.Prelude.{Ok, Err, IfSome, slice_get}
use Rattle.std.specs.Str.{bytes_eq}
use Rattle.entry_tree.specs.Selection.{Search, select}
use Rattle.entry_tree.specs.declared.entry.Entry.{Entry}
use Rattle.entry_tree.specs.declared.op.Write.{Write}
use Rattle.directory_writes.specs.Directory.{entries_of, entries_after}
use Rattle.cascade_nodes.specs.declared.node.ProviderNode.{ProviderNode}
use Rattle.cascade_nodes.specs.declared.node.ConsumerNode.{ConsumerNode}
use Rattle.cascade_report.specs.declared.notes.Origin.{Origin}
use Rattle.cascade_world.specs.Exchange.{ExchangeOutcome, agreement_of}
use Rattle.cascade_laws.specs.Headline.{AreWritesOf, IsConsumer, known_of, reported_origin, IsOrigin, IsOfRoot, IsUnserved, IsAskedFor, IsOpenedAt, FollowsWrites, IsPrefixSelected, OfCookie, IsOfStream, IsFaultOf, IsSettled, IsGiven, IsShown, ReportsRight, EachReportsRight}
use Rattle.cascade_laws.specs.Run.{AreHeld}
use Rattle.cascade_script.specs.Orders.{Order}
use Rattle.cascade_world.specs.Origins.{origin_of}
use Rattle.cascade_world.specs.ReportLines.{Storing, ReportLine}
use Rattle.cascade_world.specs.ReportLines.ReportLine.{Wrote, Opened, Refused, Sent, Taken, Stored, Ended, Faulted, Cut, Nothing, Settled, Holds, Clocked, Shown}
use Rattle.cascade_world.specs.Trace.{name_in}
use Rattle.cascade_world.specs.World.{WorldState, lineage_of}
use Rattle.cascade_exchange.proofs.Exchanging.{EachOwn}
use Rattle.cascade_exchange.proofs.Silence.{IsSilent, AreSilent, SilentIn}
use Rattle.cascade_laws.proofs.Feeding.{Frame, frame_of, IsRightOf, IsSentOf, IsSettledOf, IsFaultAfter, LineIsRightOf, LinesAreRightOf}
use Rattle.cascade_world.proofs.Finding.{provider_nodes_by, consumer_nodes_by, consumer_node_name}
use Rattle.cascade_laws.proofs.Rooting.{origin_rooted, origin_is, accepted_at, of_root_some}
use Rattle.cascade_laws.proofs.Saying.{IsLeft, known_next, left_by_one, left_line, stored_still, commits_still}
use Rattle.cascade_world.proofs.SameNames.{other_way}
use Rattle.cascade_laws.proofs.Tracking.{Tracks}

-- ---- what a provider serves

-- its accepted writes and their origins, for whoever wants what the consumer of this frame wants
pub record Serves (before : List Order) (said : List ReportLine) (number : ℕ) (frame : Frame) : Type 0 where
  pub accepted : AreWritesOf before said frame.source number frame.writes
  pub origins : (n : ℕ) → IsOrigin before said frame.source frame.spec n (origin_of frame.kind frame.lineage frame.spec n)
  pub roots : (n : ℕ) → n ≤ length frame.writes
      → IfSome (origin_of frame.kind frame.lineage frame.spec n) (IsOfRoot before frame.spec (select frame.spec (entries_after number (take n frame.writes))))

accepted_still : (before : List Order) (said lines : List ReportLine) (name : List ℕ) (number : ℕ) (writes : List Write) → IsLeft name lines → AreWritesOf before said name number writes → AreWritesOf before (said ++ lines) name number writes
accepted_still before said lines name number writes left (inl is) = inl is
accepted_still before said lines name number writes left (inr is) =
    let same = stored_still name said lines left in
    inr record {
      source = is.source;
      search = is.search;
      reload = is.reload;
      later = is.later;
      declared = is.declared;
      commits = is.commits ∙ sym (commits_still number name said lines left);
      counted = is.counted ∙ ap length (sym same);
      each = λ at stored e. is.each at stored (ap (λ s. slice_get s at) (sym same) ∙ e);
    }

origin_still : (before : List Order) (said lines : List ReportLine) (name : List ℕ) (search : Search) (n : ℕ) (origin : Option Origin) → IsLeft name lines → IsOrigin before said name search n origin → IsOrigin before (said ++ lines) name search n origin
origin_still before said lines name search n origin left (inl is) = inl is
origin_still before said lines name search n origin left (inr (inl is)) = inr (inl is)
origin_still before said lines name search n origin left (inr (inr is)) =
    inr (inr record {
      by = is.by;
      replica = is.replica;
      earlier = is.earlier;
      counted = is.counted;
      passed = is.passed ∙ ap (λ s. reported_origin search (slice_get s is.earlier)) (sym (stored_still name said lines left));
    })

serves_still : (before : List Order) (said lines : List ReportLine) (number : ℕ) (frame : Frame) → IsLeft frame.source lines → Serves before said number frame → Serves before (said ++ lines) number frame
serves_still before said lines number frame left is = record {
  accepted = accepted_still before said lines frame.source number frame.writes left is.accepted;
  origins = λ n. origin_still before said lines frame.source frame.spec n (origin_of frame.kind frame.lineage frame.spec n) left (is.origins n);
  roots = is.roots;
}

-- the provider of a consumer
pub serves_of : (before : List Order) (said : List ReportLine) (state : WorldState) (f : ConsumerNode) (r : ProviderNode) → provider_nodes_by state.provider_nodes f.source ≡ Some r → Tracks before said state
    → Serves before said r.provider.directory.history (frame_of (agreement_of r.provider f (lineage_of state r)))
serves_of before said state f r e is = record {
  accepted = accepted_at before said state f.source r is.orders is.commits e;
  origins = λ n. origin_is before said state f.source r f.consumer.spec n is.orders is.feeds is.commits e;
  roots =
      λ n low. of_root_some before state f.consumer.spec (select f.consumer.spec (entries_after r.provider.directory.history (take n r.provider.directory.writes)))
      (origin_of r.provider.kind (lineage_of state r) f.consumer.spec n) is.orders (origin_rooted said state f.source r f.consumer.spec n is.feeds is.commits e low);
}

-- ---- the lines of a part of an event

-- who is reported of in a frame
abbrev pub FollowsIn : List Order → Frame → Type 0
FollowsIn before frame = IsConsumer before frame.name frame.source frame.spec frame.reload

-- its consumer follows its writes
abbrev follows_writes : (before : List Order) (said : List ReportLine) (number : ℕ) (frame : Frame) → FollowsIn before frame → Serves before said number frame → FollowsWrites before said frame.name
follows_writes before said number frame follows serves = record {
  provider = frame.source;
  search = frame.spec;
  reload = frame.reload;
  wants = follows;
  history = number;
  writes = frame.writes;
  accepted = serves.accepted;
}

stored_right : (before : List Order) (said : List ReportLine) (number : ℕ) (frame : Frame) (stored : Storing) → FollowsIn before frame → Serves before said number frame → IsRightOf number frame (known_of frame.name said) stored
    → IsPrefixSelected before said frame.name stored
stored_right before said number frame stored follows serves is =
    let search = frame.spec in
    let of = serves.roots stored.number is.prefix in
    let P : List Entry → Type 0 = λ es. IfSome (origin_of frame.kind frame.lineage search stored.number) (IsOfRoot before search es) in
    let Q : Option Origin → Type 0 = λ o. IfSome o (IsOfRoot before search stored.entries) in
    record {
      follows = follows_writes before said number frame follows serves;
      prefix = is.prefix;
      opening = is.opening;
      latest = is.latest;
      no_shorter = is.no_shorter;
      cookie = is.cookie;
      names = is.names;
      exactly = is.exactly;
      staged = is.staged;
      wanted = is.wanted;
      from = subst (IsOrigin before said frame.source search stored.number) (sym is.from) (serves.origins stored.number);
      of_root = subst Q (sym is.from) (subst P (sym is.exactly) of);
    }

-- a line of an opening or a refusal, by what is held
cookie_right : (before : List Order) (said : List ReportLine) (number : ℕ) (frame : Frame) (name : List ℕ) (Says : Bool → ℕ → List Write → Option (List ℕ) → Type 0) → FollowsIn before frame → Serves before said number frame → name ≡ frame.name
    → Says frame.reload number frame.writes (known_of frame.name said).cookie → OfCookie before said name Says
cookie_right before said number frame name Says follows serves same says =
    subst (λ c. OfCookie before said c Says) (sym same) (record {
      follows = follows_writes before said number frame follows serves;
      says = says;
    })

-- what is reported of a cookie, and of the mode of a search, is what the order gives
abbrev pub IsGivenLine : Order → ReportLine → Type 0
IsGivenLine order (Holds name cookie) = IsGiven order name cookie
IsGivenLine order (Opened name persists writes) = IsAskedFor order persists
IsGivenLine order (Refused name persists code) = IsAskedFor order persists
IsGivenLine order _ = Unit {0}

abbrev pub GivenLines : Order → List ReportLine → Type 0
GivenLines order [] = Unit {0}
GivenLines order (line ∷ lines) = IsGivenLine order line × GivenLines order lines

abbrev pub GivenIn : Order → ExchangeOutcome → Type 0
GivenIn order (Ok next) = GivenLines order next.1
GivenIn order (Err cause) = Unit {0}

silent_line : (order : Order) (mode : Bool) → IsAskedFor order mode → (line : ReportLine) → IsSilent mode line → IsGivenLine order line
silent_line order mode asked (Holds name cookie) silent = absurd silent
silent_line order mode asked (Wrote name code writes) silent = tt
silent_line order mode asked (Opened name persists writes) silent = subst (IsAskedFor order) (sym silent) asked
silent_line order mode asked (Refused name persists code) silent = subst (IsAskedFor order) (sym silent) asked
silent_line order mode asked (Sent name message) silent = tt
silent_line order mode asked (Taken name) silent = tt
silent_line order mode asked (Stored name stored) silent = tt
silent_line order mode asked (Ended name code) silent = tt
silent_line order mode asked (Faulted name fault) silent = tt
silent_line order mode asked (Cut name) silent = tt
silent_line order mode asked (Nothing name) silent = tt
silent_line order mode asked (Settled name writes) silent = tt
silent_line order mode asked (Clocked time) silent = tt
silent_line order mode asked (Shown name entries) silent = tt

-- lines that report no opening in another mode than was asked for are lines of the order
pub silent_all : (order : Order) (mode : Bool) → IsAskedFor order mode → (lines : List ReportLine) → AreSilent mode lines → GivenLines order lines
silent_all order mode asked [] silent = tt
silent_all order mode asked (line ∷ lines) silent = (silent_line order mode asked line silent.0, silent_all order mode asked lines silent.1)

-- so are the lines of a part of an event
pub silent_given : (order : Order) (mode : Bool) → IsAskedFor order mode → (outcome : ExchangeOutcome) → SilentIn mode outcome → GivenIn order outcome
silent_given order mode asked (Ok next) silent = silent_all order mode asked next.1 silent
silent_given order mode asked (Err cause) silent = tt

sent_right : (before : List Order) (said : List ReportLine) (number : ℕ) (frame : Frame) (name octets : List ℕ) → FollowsIn before frame → Serves before said number frame → name ≡ frame.name
    → IsSentOf number frame (known_of frame.name said) octets → IsOfStream before said name octets
sent_right before said number frame name octets follows serves same is =
    subst (λ c. IsOfStream before said c octets) (sym same) (record {
      follows = follows_writes before said number frame follows serves;
      opening = is.opening;
      latest = is.latest;
      next = is.next;
    })

fault_right : (before : List Order) (said : List ReportLine) (number : ℕ) (frame : Frame) (name fault : List ℕ) → FollowsIn before frame → Serves before said number frame → name ≡ frame.name
    → IsFaultAfter frame (known_of frame.name said) fault → IsFaultOf before said name fault
fault_right before said number frame name fault follows serves same is =
    subst (λ c. IsFaultOf before said c fault) (sym same) (record {
      follows = follows_writes before said number frame follows serves;
      opening = is.opening;
      latest = is.latest;
      full = is.full;
    })

settled_right : (before : List Order) (said : List ReportLine) (number : ℕ) (frame : Frame) (name : List ℕ) (n : ℕ) → FollowsIn before frame → Serves before said number frame → name ≡ frame.name
    → IsSettledOf number frame (known_of frame.name said) n → IsSettled before said name n
settled_right before said number frame name n follows serves same is =
    subst (λ c. IsSettled before said c n) (sym same) (record {
      follows = follows_writes before said number frame follows serves;
      all = is.all;
      exactly = is.exactly;
    })

line_right : (before : List Order) (order : Order) (said : List ReportLine) (number : ℕ) (frame : Frame) (line : ReportLine) → IsGivenLine order line → FollowsIn before frame → Serves before said number frame
    → LineIsRightOf number frame (known_of frame.name said) line → ReportsRight before order said line
line_right before order said number frame (Wrote name code writes) given follows serves is = tt
line_right before order said number frame (Opened name persists writes) given follows serves is = (given, cookie_right before said number frame name (IsOpenedAt writes) follows serves is.0 is.1)
line_right before order said number frame (Refused name persists code) given follows serves is = (given, is.1, cookie_right before said number frame name IsUnserved follows serves is.0 is.2)
line_right before order said number frame (Sent name message) given follows serves is = sent_right before said number frame name message follows serves is.0 is.1
line_right before order said number frame (Taken name) given follows serves is = tt
line_right before order said number frame (Stored name stored) given follows serves is =
    subst (λ c. IsPrefixSelected before said c stored) (sym is.0) (stored_right before said number frame stored follows serves is.1)
line_right before order said number frame (Ended name code) given follows serves is = is
line_right before order said number frame (Faulted name fault) given follows serves is = fault_right before said number frame name fault follows serves is.0 is.1
line_right before order said number frame (Cut name) given follows serves is = tt
line_right before order said number frame (Nothing name) given follows serves is = tt
line_right before order said number frame (Settled name n) given follows serves is = settled_right before said number frame name n follows serves is.0 is.1
line_right before order said number frame (Holds name cookie) given follows serves is = given
line_right before order said number frame (Clocked time) given follows serves is = absurd is
line_right before order said number frame (Shown name entries) given follows serves is = absurd is

-- lines that are right of a consumer are right for the orders and the lines before them
pub lines_right : (before : List Order) (order : Order) (said : List ReportLine) (number : ℕ) (frame : Frame) (lines : List ReportLine) → bytes_eq frame.source frame.name ≡ false → GivenLines order lines → EachOwn frame.name lines
    → FollowsIn before frame → Serves before said number frame → LinesAreRightOf number frame (known_of frame.name said) lines → EachReportsRight before order said lines
lines_right before order said number frame [] apart given own follows serves is = tt
lines_right before order said number frame (line ∷ lines) apart given own follows serves is =
    let more : LinesAreRightOf number frame (known_of frame.name (said ++ line ∷ [])) lines =
    subst (λ k. LinesAreRightOf number frame k lines) (sym (known_next frame.name said line)) is.1 in
    let other : bytes_eq (name_in line) frame.source ≡ false = ap (λ n. bytes_eq n frame.source) own.0 ∙ other_way frame.source frame.name apart in
    let serves' = serves_still before said (line ∷ []) number frame (left_by_one frame.source line (left_line frame.source line other)) serves in
    (line_right before order said number frame line given.0 follows serves is.0, lines_right before order (said ++ line ∷ []) number frame lines apart given.1 own.1 follows serves' more)

-- ---- what is shown

-- a provider shows its entries after all its writes
pub provider_node_shown : (before : List Order) (said : List ReportLine) (state : WorldState) (name : List ℕ) (r : ProviderNode) → provider_nodes_by state.provider_nodes name ≡ Some r → Tracks before said state → IsShown before said name (entries_of r.provider.directory)
provider_node_shown before said state name r e is =
    inl record {
      history = r.provider.directory.history;
      writes = r.provider.directory.writes;
      accepted = accepted_at before said state name r is.orders is.commits e;
      exactly = refl;
    }

-- what was reported last of each consumer is what it holds
pub copies_held : (before : List Order) (said : List ReportLine) (state : WorldState) → Tracks before said state → AreHeld said state
copies_held before said state is name f e =
    let fed = (is.feeds.consumer_nodes name f e).fed in
    let here = consumer_node_name state.consumer_nodes name f e in
    record { entries = fed.held ∙ ap (λ n. (known_of n said).entries) (sym here); cookie = fed.cookie ∙ ap (λ n. (known_of n said).cookie) (sym here) }

-- a consumer shows the entries that its last `stored` line reported
pub copy_shown : (before : List Order) (said : List ReportLine) (state : WorldState) (name : List ℕ) (f : ConsumerNode) → consumer_nodes_by state.consumer_nodes name ≡ Some f → Tracks before said state → IsShown before said name f.consumer.copy.held
copy_shown before said state name f e is =
    let held = copies_held before said state is name f e in
    inr record { provider = f.source; search = f.consumer.spec; reload = f.consumer.reload; follows = is.orders.consumers name f e; exactly = held.entries }
