-- What holds of a provider of a script and of each of its consumers at every moment of a run, and what each part of an
-- event keeps of that.
use Rattle.std.specs.Prelude.{◌≡◌, ◌≢◌, ◌⊎◌, ℕ, pos, ◌+◌, ◌<◌, ◌≤◌, Bool, true, false, Option, Some, None, Ok, List, [], ◌∷◌, ◌++◌, length, map, take, fold}
use Rattle.ldap_constants.specs.declared.result_codes.TheConstants.{BUSY, E_SYNC_REFRESH_REQUIRED}
use Rattle.csn_cookie.specs.Csn.{CsnValue, IsCsn, start}
use Rattle.csn_cookie.specs.CsnMaker.{next_csn}
use Rattle.dn_names.specs.Names.{TypeAndValue, is_at_or_below}
use Rattle.directory_laws.specs.Accepted.{WereAccepted}
use Rattle.directory_writes.specs.Directory.{CsnsRise, entries_after, entries_of, last_csn}
use Rattle.directory_writes.proofs.Distinct.{AreDistinct}
use Rattle.directory_writes.proofs.Promised.{IsPromised}
use Rattle.entry_tree.specs.Effects.{committed}
use Rattle.entry_tree.specs.History.{state_of}
use Rattle.entry_tree.specs.Selection.{Search, select}
use Rattle.entry_tree.specs.State.{ascends}
use Rattle.entry_tree.specs.declared.entry.Entry.{Entry}
use Rattle.entry_tree.specs.declared.op.Op.TheVariants.{Commit}
use Rattle.entry_tree.specs.declared.op.Write.{Write}
use Rattle.sync_model.specs.Incremental.{number_of}
use Rattle.sync_model.specs.Law.{IsCut}
use Rattle.sync_model.specs.Message.{SyncMessage}
use Rattle.sync_model.specs.Stream.{Start, RefreshPiece, last_mark}
use Rattle.sync_model.proofs.NextMessages.{HasNext}
use Rattle.sync_provider.specs.Committing.{commit_refusal}
use Rattle.sync_provider.specs.Machine as machine
use Rattle.sync_provider.specs.Machine.{ProviderState, fresh, log_limited, queue_limited}
use Rattle.sync_provider.specs.Search.{busy_end, cookie_after}
use Rattle.sync_provider.specs.declared.provider.Kind.{Kind}
use Rattle.sync_provider.specs.declared.provider.Kind.TheVariants.{Root, Replica}
use Rattle.sync_provider.specs.declared.writing.CommitFault.{CommitFault}
use Rattle.sync_provider.specs.declared.writing.CommitFault.TheVariants as fault
use Rattle.sync_provider.proofs.Whereabouts.{IsWhere}
use Rattle.sync_provider.proofs.Advanced.{OpensNone}
use Rattle.schema_rules.specs.declared.raw.Change.{Change}
use Rattle.sync_wire.proofs.Servable.{CanBeServed}
use Rattle.cascade_exchange.specs.declared.exchange.Exchange.{Exchange}
use Rattle.cascade_exchange.specs.declared.exchange.Exchange.TheVariants as goes
use Rattle.cascade_exchange.proofs.Owns.{OwnsNew}
use Rattle.cascade_nodes.specs.declared.node.ConsumerNode.{ConsumerNode}
use Rattle.cascade_nodes.proofs.Fed.{SoFar, HasPending, IsAtRest, AreApart, HasRoom}
use Rattle.cascade_world.specs.Cookies.{held_cookie}
use Rattle.cascade_world.specs.Directory.{logged_directory, wrote_change}
use Rattle.cascade_world.specs.Exchange.{Agreement, part_of, idle, respecs}
use Rattle.cascade_laws.specs.Headline.{ReportedOpening, Known, nothing_known, known_after, IsUnserved, IsOpenedAt, NamesPrefix, BeginsFrom, session_over, stream_over, sent_octets, IsNextOf, IsStageFull}
use Rattle.cascade_world.specs.Origins.{Lineage, origin_of}
use Rattle.cascade_world.specs.ReportLines.{Storing, ReportLine}
use Rattle.cascade_world.specs.ReportLines.ReportLine.{Opened, Refused, Sent, Stored, Ended, Faulted, Settled, Clocked, Shown}

-- a provider: its CSNs carry the number of its node, which is that of its history too, and each is above those before
-- it; what each prefix of its writes leaves can be served; those of a root were accepted one after another; and its
-- searches have numbers of their own
pub record IsSource (number : ℕ) (suffix : List (List TypeAndValue)) (p : ProviderState) : Type 0 where
  pub first : 1 ≤ number
  pub small : number ≤ 16
  pub directory : p.directory ≡ logged_directory number suffix p.directory.writes p.directory.log
  pub rises : CsnsRise number p.directory.writes
  pub ranged : (count : ℕ) → IsCsn (last_csn (start number) (take count p.directory.writes))
  pub good : (count : ℕ) → CanBeServed (state_of number p.directory.writes count)
  pub accepted : p.kind ≡ Root → WereAccepted suffix number p.directory.writes
  pub few : length p.directory.writes ≤ 1000000
  pub apart : AreDistinct p.searches

-- what is known of a consumer that wants this promises so
abbrev pub Promises : ℕ → Search → List Write → Known → Type 0
Promises number search writes known = IsPromised number search writes known.entries (held_cookie known.cookie)

-- a prefix of these messages, and then the end with busy; if the search ends with its refresh, it is not all of them
pub record IsCutShort (persists : Bool) (messages ahead : List SyncMessage) : Type 0 where
  pub prefix : List SyncMessage
  pub left : List SyncMessage
  pub split : prefix ++ left ≡ ahead
  pub is : messages ≡ prefix ++ busy_end ∷ []
  pub some : persists ≡ false → HasNext left

-- all of these messages, or they are cut short
abbrev pub Feeds : (persists cut : Bool) → (messages ahead : List SyncMessage) → Type 0
Feeds persists false messages ahead = messages ≡ ahead
Feeds persists true messages ahead = IsCutShort persists messages ahead

-- how far the search of an opening is over these writes, which some pieces cut and n writes came after: its messages up to all
-- writes are those that were taken and those to come; what is in the link and what is pending are those to come, or are cut
-- short since a write came
pub record IsUnderWay (number : ℕ) (search : Search) (writes : List Write) (opening : ReportedOpening) : Type 0 where
  pub start : Start
  pub from : BeginsFrom number (take opening.writes writes) opening.cookie (number_of start)
  pub pieces : List RefreshPiece
  pub sliced : IsCut (session_over number search writes opening) start opening.writes pieces
  pub count : ℕ
  pub upto : last_mark opening.writes pieces + count ≡ length writes
  pub taken : List SyncMessage
  pub ahead : List SyncMessage
  pub whole : taken ++ ahead ≡ stream_over number search writes opening start pieces count
  pub cut : Bool
  pub late : cut ≡ true → opening.writes < length writes
  pub linked : List SyncMessage
  pub pending : List SyncMessage
  pub left : Feeds opening.persists cut (linked ++ pending) ahead
  pub reported : opening.sent ≡ map sent_octets (taken ++ linked)

-- as the provider has it
abbrev pub far_of : Start → ReportedOpening → ℕ → List SyncMessage → SoFar
far_of start opening count handed = record { start = start; opened = opening.writes; later = count; handed = handed }

-- a search of that opening goes on between the provider and the consumer: the link, the open search and what is held
-- are as far as it is
pub record GoesOn (number : ℕ) (p : ProviderState) (f : ConsumerNode) (opening : ReportedOpening) (entries : List Entry) : Type 0 where
  pub session : IsUnderWay number f.consumer.spec p.directory.writes opening
  pub link : f.link ≡ map sent_octets session.linked
  pub search :
      HasPending p.directory p.searches f.consumer.spec opening.persists session.cut (far_of session.start opening session.count (session.taken ++ session.linked)) f.search session.pending
  pub place :
      IsWhere (session_over number f.consumer.spec p.directory.writes opening) session.start opening.writes session.pieces session.count entries f.consumer.copy session.taken session.ahead

-- the search of the latest opening goes on
pub record IsGoing (number : ℕ) (p : ProviderState) (f : ConsumerNode) (known : Known) : Type 0 where
  pub opening : ReportedOpening
  pub latest : known.opening ≡ Some opening
  pub goes : GoesOn number p f opening known.entries

-- what the lines report of the consumer is so: it holds these entries and this cookie, and its search, if one goes on, is
-- that of its latest opening
pub record IsFed (number : ℕ) (p : ProviderState) (f : ConsumerNode) (known : Known) : Type 0 where
  pub held : f.consumer.copy.held ≡ known.entries
  pub ascending : ascends known.entries ≡ true
  pub cookie : f.consumer.copy.cookie ≡ known.cookie
  pub promised : IsPromised number f.consumer.spec p.directory.writes known.entries (held_cookie f.consumer.copy.cookie)
  pub below : is_at_or_below f.consumer.spec.base p.directory.suffix ≡ true
  pub state : IsAtRest f ⊎ IsGoing number p f known

-- ---- what each part keeps and reports

-- what no part changes: the writes of the provider and where its content is from, and what the consumer is
pub record Frame : Type 0 where
  pub writes : List Write
  pub kind : Kind
  pub lineage : Lineage
  pub name : List ℕ
  pub source : List ℕ
  pub spec : Search
  pub reload : Bool

abbrev pub frame_of : Agreement → Frame
frame_of pair = record {
  writes = pair.provider.directory.writes;
  kind = pair.provider.kind;
  lineage = pair.lineage;
  name = pair.consumer_node.name;
  source = pair.consumer_node.source;
  spec = pair.consumer_node.consumer.spec;
  reload = pair.consumer_node.consumer.reload;
}

-- a `stored` line of the consumer after the latest `opened` line reported this
pub record IsRightOf (number : ℕ) (frame : Frame) (known : Known) (stored : Storing) : Type 0 where
  pub prefix : stored.number ≤ length frame.writes
  pub opening : ReportedOpening
  pub latest : known.opening ≡ Some opening
  pub no_shorter : opening.writes ≤ stored.number
  pub cookie : stored.commit.cookie ≡ Some (cookie_after number number frame.writes stored.number)
  pub names : NamesPrefix (cookie_after number number frame.writes stored.number) number frame.writes stored.number
  pub exactly : stored.entries ≡ select frame.spec (entries_after number (take stored.number frame.writes))
  pub staged : committed known.entries stored.commit.puts stored.commit.drops ≡ stored.entries
  pub wanted : stored.search ≡ frame.spec
  pub from : stored.origin ≡ origin_of frame.kind frame.lineage frame.spec stored.number

-- a `sent` line after the latest `opened` line
pub record IsSentOf (number : ℕ) (frame : Frame) (known : Known) (octets : List ℕ) : Type 0 where
  pub opening : ReportedOpening
  pub latest : known.opening ≡ Some opening
  pub next : IsNextOf number frame.spec frame.writes opening octets

-- a `settled` line
pub record IsSettledOf (number : ℕ) (frame : Frame) (known : Known) (n : ℕ) : Type 0 where
  pub all : n ≡ length frame.writes
  pub exactly : known.entries ≡ select frame.spec (entries_after number frame.writes)

-- a `fault` line after the latest `opened` line
pub record IsFaultAfter (frame : Frame) (known : Known) (why : List ℕ) : Type 0 where
  pub opening : ReportedOpening
  pub latest : known.opening ≡ Some opening
  pub full : IsStageFull known.entries opening (length frame.writes) why

-- no part shows entries or sets a clock
abbrev pub LineIsRightOf : ℕ → Frame → Known → ReportLine → Type 0
LineIsRightOf number frame known (Stored name stored) = (name ≡ frame.name) × IsRightOf number frame known stored
LineIsRightOf number frame known (Opened name persists n) = (name ≡ frame.name) × IsOpenedAt n frame.reload number frame.writes known.cookie
LineIsRightOf number frame known (Refused name persists code) =
    (name ≡ frame.name) × (code ≡ E_SYNC_REFRESH_REQUIRED) × IsUnserved frame.reload number frame.writes known.cookie
LineIsRightOf number frame known (Sent name octets) = (name ≡ frame.name) × IsSentOf number frame known octets
LineIsRightOf number frame known (Ended name code) = code ≡ pos BUSY
LineIsRightOf number frame known (Faulted name why) = (name ≡ frame.name) × IsFaultAfter frame known why
LineIsRightOf number frame known (Settled name n) = (name ≡ frame.name) × IsSettledOf number frame known n
LineIsRightOf number frame known (Clocked time) = ⊥
LineIsRightOf number frame known (Shown name entries) = ⊥
LineIsRightOf number frame known _ = Unit {0}

abbrev pub LinesAreRightOf : ℕ → Frame → Known → List ReportLine → Type 0
LinesAreRightOf number frame known [] = Unit {0}
LinesAreRightOf number frame known (line ∷ lines) =
    LineIsRightOf number frame known line × LinesAreRightOf number frame (known_after frame.name known line) lines

abbrev pub LinesAreRight : ℕ → Agreement → Known → List ReportLine → Type 0
LinesAreRight number pair known lines = LinesAreRightOf number (frame_of pair) known lines

-- the other consumers of a provider are fed as before
abbrev pub KeepsOthers : ℕ → Agreement → Agreement → Type 0
KeepsOthers number before after =
    (g : ConsumerNode) (known : Known) → IsFed number before.provider g known → AreApart before.consumer_node g
    → IsFed number after.provider g known × AreApart after.consumer_node g

-- what is known promises of the content of any other node what it did
abbrev pub KeepsPromises : ℕ → Search → Known → Known → Type 0
KeepsPromises number search before after =
    (other : ℕ) (writes : List Write) → 1 ≤ other → other ≤ 16 → other ≢ number → Promises other search writes before → Promises other search writes after

-- what these lines leave known of the consumer
abbrev pub known_then : Agreement → Known → List ReportLine → Known
known_then pair known lines = fold (known_after pair.consumer_node.name) known lines

-- what holds after a part of an event that a consumer goes through
pub record IsKept (number : ℕ) (suffix : List (List TypeAndValue)) (before after : Agreement) (lines : List ReportLine) (known : Known) : Type 0 where
  pub source : IsSource number suffix after.provider
  pub fed : IsFed number after.provider after.consumer_node (known_then before known lines)
  pub right : LinesAreRight number before known lines
  pub same : frame_of after ≡ frame_of before
  pub others : KeepsOthers number before after
  pub owns : OwnsNew before after
  pub elsewhere : KeepsPromises number before.consumer_node.consumer.spec known (known_then before known lines)

-- all parts but that after which something else is wanted
abbrev pub WantsTheSame : Exchange → Type 0
WantsTheSame (goes.Respec spec) = ⊥
WantsTheSame _ = Unit {0}

abbrev pub PartsAreKept : Type 0
PartsAreKept =
    (number : ℕ) (suffix : List (List TypeAndValue)) (before after : Agreement) (lines : List ReportLine) (known : Known) (exchange : Exchange)
    → WantsTheSame exchange → IsSource number suffix before.provider → IsFed number before.provider before.consumer_node known
    → HasRoom before.provider before.consumer_node → part_of exchange before ≡ Ok (after, lines) → IsKept number suffix before after lines known

-- a consumer that wants something else is at rest then, without a cookie and with the entries that it held
pub record IsRespecced (number : ℕ) (suffix : List (List TypeAndValue)) (search : Search) (before after : Agreement) (lines : List ReportLine) (known : Known) : Type 0 where
  pub source : IsSource number suffix after.provider
  pub fed : IsFed number after.provider after.consumer_node (known_then before known lines)
  pub right : LinesAreRight number before known lines
  pub same : frame_of after ≡ record (frame_of before) { spec = search }
  pub others : KeepsOthers number before after
  pub owns : OwnsNew before after
  pub rest : IsAtRest after.consumer_node
  pub none : (known_then before known lines).cookie ≡ None
  pub entries : (known_then before known lines).entries ≡ known.entries

abbrev pub RespecsAreKept : Type 0
RespecsAreKept =
    (number : ℕ) (suffix : List (List TypeAndValue)) (search : Search) (before after : Agreement) (lines : List ReportLine) (known : Known)
    → is_at_or_below search.base before.provider.directory.suffix ≡ true → IsSource number suffix before.provider
    → IsFed number before.provider before.consumer_node known → HasRoom before.provider before.consumer_node
    → respecs search before ≡ Ok (after, lines) → IsRespecced number suffix search before after lines known

-- a consumer that was cut where it was busy is at rest
abbrev pub IdlesRest : Type 0
IdlesRest = (before after : Agreement) (lines : List ReportLine) → idle before ≡ Ok (after, lines) → IsAtRest after.consumer_node

-- one that is at rest is fed by any provider, where its cookie promises content of that one's writes
abbrev pub RestsAreFed : Type 0
RestsAreFed =
    (number other : ℕ) (p q : ProviderState) (f g : ConsumerNode) (known : Known) → IsFed number p f known → IsAtRest g → g.consumer ≡ f.consumer
    → IsPromised other f.consumer.spec q.directory.writes known.entries (held_cookie known.cookie)
    → is_at_or_below f.consumer.spec.base q.directory.suffix ≡ true → IsFed other q g known

-- a new consumer is at rest; a provider without writes is a source
abbrev pub RestIsFed : Type 0
RestIsFed =
    (number : ℕ) (p : ProviderState) (f : ConsumerNode) → f.search ≡ None → f.link ≡ [] → f.consumer.copy.session ≡ None → f.consumer.copy.held ≡ []
    → f.consumer.copy.cookie ≡ None → is_at_or_below f.consumer.spec.base p.directory.suffix ≡ true → IsFed number p f nothing_known

abbrev pub FreshIsSource : Type 0
FreshIsSource = (number : ℕ) (suffix : List (List TypeAndValue)) (kind : Kind) → 1 ≤ number → number ≤ 16 → IsSource number suffix (fresh suffix number number kind)

-- a change of a provider alone that keeps it a source, and what its consumers are fed
pub record KeepsAll (number : ℕ) (suffix : List (List TypeAndValue)) (p q : ProviderState) : Type 0 where
  pub source : IsSource number suffix q
  pub fed : (g : ConsumerNode) (known : Known) → IsFed number p g known → IsFed number q g known
  pub opens : OpensNone p q
  pub kind : q.kind ≡ p.kind
  pub later : List Write
  pub grown : q.directory.writes ≡ p.directory.writes ++ later

abbrev pub WritesAreKept : Type 0
WritesAreKept =
    (number : ℕ) (suffix : List (List TypeAndValue)) (p : ProviderState) (now : ℕ) (change : Change) → IsSource number suffix p
    → KeepsAll number suffix p (wrote_change p now change)

-- so do a limit of the log and one of the queues
abbrev pub LimitsAreKept : Type 0
LimitsAreKept =
    (number : ℕ) (suffix : List (List TypeAndValue)) (p : ProviderState) (limit : ℕ) → IsSource number suffix p → KeepsAll number suffix p (log_limited p limit)

abbrev pub QueuesAreKept : Type 0
QueuesAreKept =
    (number : ℕ) (suffix : List (List TypeAndValue)) (p : ProviderState) (limit : ℕ) → IsSource number suffix p → KeepsAll number suffix p (queue_limited p limit)

-- ---- commits

-- one write more, with the next CSN, which puts these entries and drops these identities
pub record IsCommitted (number : ℕ) (suffix : List (List TypeAndValue)) (p q : ProviderState) (puts : List Entry) (drops : List ℕ) (now : ℕ) : Type 0 where
  pub keeps : KeepsAll number suffix p q
  pub csn : CsnValue
  pub drawn : next_csn now (last_csn (start number) p.directory.writes) ≡ Some csn
  pub one : q.directory.writes ≡ p.directory.writes ++ record { csn = csn; op = Commit puts drops } ∷ []
  pub entries : entries_of q.directory ≡ committed (entries_of p.directory) puts drops

-- a replica commits, where a limit is not in the way
abbrev pub CommitIs : ℕ → List (List TypeAndValue) → ProviderState → List Entry → List ℕ → ℕ → Option CommitFault → Type 0
CommitIs number suffix p puts drops now None = IsCommitted number suffix p (machine.committed p puts drops now) puts drops now
CommitIs number suffix p puts drops now (Some (fault.LimitReached limit)) = Unit {0}
CommitIs number suffix p puts drops now (Some (fault.DuplicateName one other)) = ⊥
CommitIs number suffix p puts drops now (Some fault.NoMemory) = ⊥
CommitIs number suffix p puts drops now (Some fault.NotAReplica) = ⊥

abbrev pub CommitsAreKept : Type 0
CommitsAreKept =
    (number : ℕ) (suffix : List (List TypeAndValue)) (p : ProviderState) (puts : List Entry) (drops : List ℕ) (now : ℕ)
    → IsSource number suffix p → p.kind ≡ Replica → CanBeServed (committed (entries_of p.directory) puts drops)
    → CommitIs number suffix p puts drops now (commit_refusal p.kind p.directory puts drops now)
