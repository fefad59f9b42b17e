-- What each line promises, said of the orders and the lines before it alone.
use Rattle.std.specs.Prelude.{◌≡◌, ◌⊎◌, ℕ, pos, ◌+◌, ◌-◌, ◌<◌, ◌≤◌, Bool, true, false, ◌&&◌, ◌==◌, Option, Some, None, option_map, IfSome, List, [], ◌∷◌, ◌++◌, length, map, take, slice_get, fold, if◌then◌else◌, count_by, codes}
use Rattle.std.specs.List.{flat_map}
use Rattle.std.specs.Str.{bytes_eq}
use Rattle.ldap_constants.specs.declared.result_codes.TheConstants.{BUSY, E_SYNC_REFRESH_REQUIRED}
use Rattle.csn_cookie.specs.Cookie.{IsBlank, IsCookie, IsCookieSpelling}
use Rattle.csn_cookie.specs.Csn.{CsnValue, start, is_upto, upto}
use Rattle.csn_cookie.specs.CsnMaker.{next_csn}
use Rattle.csn_cookie.specs.declared.cookie.Cookie.{Cookie}
use Rattle.dn_names.specs.Names.{TypeAndValue}
use Rattle.entry_tree.specs.History.{touched_over}
use Rattle.entry_tree.specs.Effects.{committed}
use Rattle.entry_tree.specs.Selection.{Search, select, is_same_search}
use Rattle.entry_tree.specs.Touched.{touched}
use Rattle.entry_tree.specs.declared.entry.Entry.{Entry}
use Rattle.entry_tree.specs.declared.op.Op.TheVariants as ops
use Rattle.entry_tree.specs.declared.op.Write.{Write}
use Rattle.ldap_messages.specs.Whole.{message_octets}
use Rattle.sync_model.specs.Copy.{Commit, asked}
use Rattle.sync_model.specs.Incremental.{number_of, sent_entry, about}
use Rattle.sync_model.specs.Law.{IsCut, FillsStage, is_nil}
use Rattle.sync_model.specs.Message.{SyncMessage}
use Rattle.sync_model.specs.Stream.{SyncOperation, Start, RefreshPiece, content_after, among, last_mark, refresh, group, later, stream}
use Rattle.sync_wire.specs.Sending.{sent}
use Rattle.directory_writes.specs.Directory.{entries_after, last_csn, csns}
use Rattle.directory_writes.specs.Touches.{uuids_of}
use Rattle.sync_provider.specs.Search.{busy_end, cookie_after, session_of}
use Rattle.cascade_world.specs.Directory.{directory_of, changed}
use Rattle.cascade_world.specs.Opening.{message_id}
use Rattle.cascade_script.specs.Orders.{Order}
use Rattle.cascade_script.specs.Orders.{Order as asks}
use Rattle.cascade_world.specs.Origins.{prefix_of}
use Rattle.cascade_world.specs.ReportLines.{Storing, ReportLine}
use Rattle.cascade_report.specs.declared.notes.Origin.{Origin}
use Rattle.cascade_world.specs.ReportLines.ReportLine.{Opened, Refused, Sent, Stored, Ended, Faulted, Settled, Holds, Clocked, Shown}

-- the time after an order
abbrev pub time_after : ℕ → Order → ℕ
time_after time (asks.Clock new) = new
time_after time _ = time

-- the accepted writes of the directory of this name after one more order
abbrev pub with_accepted :
    ℕ → List (List TypeAndValue) → List ℕ → ℕ → List Write → Order → List Write
with_accepted history suffix name time writes (asks.Write target change) =
    if bytes_eq target name then (changed (directory_of history suffix writes) time change).writes
    else writes
with_accepted history suffix name time writes _ = writes

abbrev pub accepted_from :
    ℕ → List (List TypeAndValue) → List ℕ → ℕ → List Write → List Order → List Write
accepted_from history suffix name time writes [] = writes
accepted_from history suffix name time writes (order ∷ orders) =
    accepted_from history suffix name (time_after time order)
    (with_accepted history suffix name time writes order) orders

-- the time after these orders, from the first moment of 1970 on
abbrev pub time_from : ℕ → List Order → ℕ
time_from time [] = time
time_from time (order ∷ orders) = time_from (time_after time order) orders

abbrev pub is_declaration : Order → Bool
is_declaration (asks.Provider name suffix) = true
is_declaration (asks.Consumer name source search reload) = true
is_declaration (asks.Replica name source search reload) = true
is_declaration _ = false

-- the node of that number was declared, and these orders came after it
pub record IsDeclared
    (before : List Order) (number : ℕ) (declaration : Order) (later : List Order) : Type 0 where
  pub earlier : List Order
  pub whole : before ≡ earlier ++ declaration ∷ later
  pub numbered : number ≡ count_by is_declaration earlier + 1

-- ---- what a consumer follows

-- a provider, what is wanted of it, and whether a cookie that does not serve may be left aside (the
-- reloadHint of RFC 4533, section 2.2)
pub record Following : Type 0 where
  pub provider : List ℕ
  pub search : Search
  pub reload : Bool

abbrev pub following : List ℕ → Search → Bool → Following
following provider search reload = record { provider = provider; search = search; reload = reload }

-- what a consumer follows after one more order
abbrev pub followed : List ℕ → Option Following → Order → Option Following
followed consumer now (asks.Consumer name source search reload) =
    if bytes_eq name consumer then Some (following source search reload) else now
followed consumer now (asks.Replica name source search reload) =
    if bytes_eq name consumer then Some (following source search reload) else now
followed consumer now (asks.Repoint name source) =
    if bytes_eq name consumer
    then option_map (λ (f : Following). record f { provider = source }) now
    else now
followed consumer now (asks.Respec name search) =
    if bytes_eq name consumer then option_map (λ (f : Following). record f { search = search }) now
    else now
followed consumer now _ = now

abbrev pub follows_now : List Order → List ℕ → Option Following
follows_now before consumer = fold (followed consumer) None before

-- the consumer, which may be that of a replica, follows this provider with this search, and with a
-- reloadHint or without one
abbrev pub IsConsumer : List Order → List ℕ → List ℕ → Search → Bool → Type 0
IsConsumer before consumer provider search reload =
    follows_now before consumer ≡ Some (following provider search reload)

-- from this node up, each of these is what the one before it follows, and the
-- last one follows nothing
abbrev pub LeadsUp : List Order → List ℕ → List (List ℕ) → List ℕ → Type 0
LeadsUp before name [] top = (top ≡ name) × (follows_now before name ≡ None)
LeadsUp before name (next ∷ path) top =
    (by : Following) × (follows_now before name ≡ Some by) × (by.provider ≡ next)
    × LeadsUp before next path top

-- ---- the writes of a provider

-- these are the accepted writes of the root of that name: a function of the orders alone
pub record AreOfRoot
    (before : List Order) (root : List ℕ) (history : ℕ) (writes : List Write) : Type 0 where
  pub suffix : List (List TypeAndValue)
  pub later : List Order
  pub declared : IsDeclared before history (asks.Provider root suffix) later
  pub accepted : writes ≡ accepted_from history suffix root (time_from 0 declared.earlier) [] later

-- the time, and the commits of a replica
pub record Committed : Type 0 where
  pub time : ℕ
  pub writes : List Write

-- what a `stored` line put and dropped is one write, with the next CSN at that time
abbrev pub with_csn : List Write → Commit → Option CsnValue → List Write
with_csn writes commit None = writes
with_csn writes commit (Some csn) =
    writes ++ record { csn = csn; op = ops.Commit commit.puts commit.drops } ∷ []

abbrev pub with_stored : ℕ → ℕ → List Write → Commit → List Write
with_stored history time writes commit =
    with_csn writes commit (next_csn time (last_csn (start history) writes))

abbrev pub committed_after : ℕ → List ℕ → Committed → ReportLine → Committed
committed_after history replica known (Clocked time) = record known { time = time }
committed_after history replica known (Stored name stored) =
    if bytes_eq name replica
    then record known { writes = with_stored history known.time known.writes stored.commit }
    else known
committed_after history replica known _ = known

-- the commits of a replica of this history: one for each of its `stored` lines
abbrev pub commits_reported : ℕ → List ℕ → List ReportLine → List Write
commits_reported history replica said =
    (fold (committed_after history replica) (record { time = 0; writes = [] }) said).writes

-- what the `stored` lines of a node report, in order
abbrev pub stored_by : List ℕ → ReportLine → List Storing
stored_by node (Stored name stored) = if bytes_eq name node then stored ∷ [] else []
stored_by node _ = []

abbrev pub stored_of : List ℕ → List ReportLine → List Storing
stored_of node said = flat_map (stored_by node) said

-- these are the commits of the replica of that name: a function of the lines. Each of its `stored`
-- lines is one write, and the entries after the writes up to it are those that the line reported
pub record AreOfReplica
    (before : List Order) (said : List ReportLine) (replica : List ℕ) (history : ℕ)
    (writes : List Write) : Type 0 where
  pub source : List ℕ
  pub search : Search
  pub reload : Bool
  pub later : List Order
  pub declared : IsDeclared before history (asks.Replica replica source search reload) later
  pub commits : writes ≡ commits_reported history replica said
  pub counted : length writes ≡ length (stored_of replica said)
  pub each :
      (at : ℕ) (stored : Storing) → slice_get (stored_of replica said) at ≡ Some stored
      → entries_after history (take (at + 1) writes) ≡ stored.entries

-- these are the accepted writes of the provider of that name
abbrev pub AreWritesOf : List Order → List ReportLine → List ℕ → ℕ → List Write → Type 0
AreWritesOf before said provider history writes =
    AreOfRoot before provider history writes ⊎ AreOfReplica before said provider history writes

-- ---- what was reported before

-- an `opened` line: the number that it reports, whether the search goes on after its refresh, and
-- the cookie that the consumer held then; and the messages that were sent since, as bytes
pub record ReportedOpening : Type 0 where
  pub writes : ℕ
  pub persists : Bool
  pub cookie : Option (List ℕ)
  pub sent : List (List ℕ)

-- what the lines report of a consumer: the entries of its last `stored` line, its cookie,
-- and its latest opening
pub record Known : Type 0 where
  pub entries : List Entry
  pub cookie : Option (List ℕ)
  pub opening : Option ReportedOpening

abbrev pub nothing_known : Known
nothing_known = record { entries = []; cookie = None; opening = None }

abbrev pub with_sent : List ℕ → ReportedOpening → ReportedOpening
with_sent message opening = record opening { sent = opening.sent ++ message ∷ [] }

-- a `stored` line reports what is held then; the cookie is lost where it is refused,
-- or as the script says
abbrev pub known_after : List ℕ → Known → ReportLine → Known
known_after consumer known (Stored name stored) =
    if bytes_eq name consumer
    then record known { entries = stored.entries; cookie = stored.commit.cookie }
    else known
known_after consumer known (Refused name persists code) =
    if bytes_eq name consumer && code == E_SYNC_REFRESH_REQUIRED then record known { cookie = None }
    else known
known_after consumer known (Holds name cookie) =
    if bytes_eq name consumer then record known { cookie = cookie } else known
known_after consumer known (Opened name persists writes) =
    if bytes_eq name consumer
    then record known {
      opening = Some
          (record { writes = writes; persists = persists; cookie = known.cookie; sent = [] });
    }
    else known
known_after consumer known (Sent name message) =
    if bytes_eq name consumer
    then record known { opening = option_map (with_sent message) known.opening }
    else known
known_after consumer known _ = known

abbrev pub known_of : List ℕ → List ReportLine → Known
known_of consumer said = fold (known_after consumer) nothing_known said

-- ---- cookies

-- a text that a directory of this history with these writes can serve: it spells a cookie of the
-- history whose CSN is not greater than the directory's last one
pub record IsServable (text : List ℕ) (history : ℕ) (writes : List Write) : Type 0 where
  pub cookie : Cookie
  pub good : IsCookie cookie
  pub spells : IsCookieSpelling cookie text
  pub own : cookie.history ≡ history
  pub not_greater : is_upto cookie.csn (last_csn (start history) writes) ≡ true

-- no cookie is in the way of a refresh: none or a blank one is held, or it can be served, or
-- it may be left aside
abbrev pub IsServedCookie : Bool → ℕ → List Write → Option (List ℕ) → Type 0
IsServedCookie reload history writes None = Unit {0}
IsServedCookie reload history writes (Some text) =
    (reload ≡ true) ⊎ (IsBlank text ⊎ IsServable text history writes)

-- a cookie is: it is not blank, it can't be served, and it may not be left aside
abbrev pub IsUnserved : Bool → ℕ → List Write → Option (List ℕ) → Type 0
IsUnserved reload history writes None = ⊥
IsUnserved reload history writes (Some text) =
    (reload ≡ false) × (IsBlank text → ⊥) × (IsServable text history writes → ⊥)

-- ---- the messages of a search

-- the cookie that the text spells can be served, and n of the writes have CSNs that are not
-- greater than its own
pub record NamesPrefix
    (text : List ℕ) (history : ℕ) (writes : List Write) (number : ℕ) : Type 0 where
  pub serves : IsServable text history writes
  pub counted : number ≡ upto (csns writes) serves.cookie.csn

-- a search that is accepted after these writes begins from the prefix that the cookie names, or
-- from none where the cookie can't be served
abbrev pub BeginsFrom : ℕ → List Write → Option (List ℕ) → Option ℕ → Type 0
BeginsFrom history writes None None = Unit {0}
BeginsFrom history writes None (Some number) = ⊥
BeginsFrom history writes (Some text) None = IsServable text history writes → ⊥
BeginsFrom history writes (Some text) (Some number) = NamesPrefix text history writes number

-- a search in the mode of an opening, over a provider's writes
abbrev pub session_over : ℕ → Search → List Write → ReportedOpening → SyncOperation
session_over history search writes opening =
    session_of opening.persists history history search writes

-- its refresh in these pieces, and all its messages up to n writes after the last of them
-- (RFC 4533, sections 3.3 and 3.4)
abbrev pub refresh_over :
    ℕ → Search → List Write → ReportedOpening → Start → List RefreshPiece → List SyncMessage
refresh_over history search writes opening start pieces =
    refresh (session_over history search writes opening) start opening.writes pieces

abbrev pub stream_over :
    ℕ → Search → List Write → ReportedOpening → Start → List RefreshPiece → ℕ → List SyncMessage
stream_over history search writes opening start pieces count =
    stream (session_over history search writes opening) start opening.writes pieces count

-- the bytes that a message is sent as
abbrev pub sent_octets : SyncMessage → List ℕ
sent_octets message = message_octets (sent message_id message)

-- a message follows these in a Stream; or it is the end with busy that follows a prefix of one,
-- after a write that came since the opening, and if the search ends with its refresh before all
-- of that
abbrev pub Follows :
    ReportedOpening → (most : ℕ) → List SyncMessage → List SyncMessage → SyncMessage → Type 0
Follows opening most all earlier message =
    ((rest : List SyncMessage) × (earlier ++ message ∷ rest ≡ all))
    ⊎ ((rest : List SyncMessage) × (earlier ++ rest ≡ all) × (message ≡ busy_end)
    × (opening.writes < most) × ((opening.persists ≡ true) ⊎ (is_nil rest ≡ false)))

-- the message that follows these, which begin with a refresh whose last piece has this number of
-- writes, is one of those that the write after `number` writes reports; and it is about one
-- identity, whose entry this write changed in what is selected
pub record ReportsChange
    (operation : SyncOperation) (refreshed : List SyncMessage) (last most : ℕ)
    (earlier : List SyncMessage) (message : SyncMessage) : Type 0 where
  pub number : ℕ
  pub from : last ≤ number
  pub upto : number < most
  pub prefix : List SyncMessage
  pub place : earlier ≡ refreshed ++ (later operation last (number - last) ++ prefix)
  pub rest : List SyncMessage
  pub reported : prefix ++ message ∷ rest ≡ group operation number
  pub uuid : ℕ
  pub named : about message ≡ uuid ∷ []
  pub changed :
      among uuid
      (uuids_of (touched (content_after operation number) (content_after operation (number + 1))))
      ≡ true

-- ---- the lines

-- what a consumer follows, and the accepted writes of its provider
pub record FollowsWrites
    (before : List Order) (said : List ReportLine) (consumer : List ℕ) : Type 0 where
  pub provider : List ℕ
  pub search : Search
  pub reload : Bool
  pub wants : IsConsumer before consumer provider search reload
  pub history : ℕ
  pub writes : List Write
  pub accepted : AreWritesOf before said provider history writes

-- the origin of a prefix of a root's writes is itself
pub record IsOwnOrigin
    (before : List Order) (provider : List ℕ) (n : ℕ) (origin : Option Origin) : Type 0 where
  pub history : ℕ
  pub suffix : List (List TypeAndValue)
  pub later : List Order
  pub declared : IsDeclared before history (asks.Provider provider suffix) later
  pub own : origin ≡ prefix_of provider n

-- that of no commit of a replica is no write of the root at the top of its providers
pub record IsFirstOrigin
    (before : List Order) (provider : List ℕ) (n : ℕ) (origin : Option Origin) : Type 0 where
  pub none : n ≡ 0
  pub path : List (List ℕ)
  pub top : List ℕ
  pub up : LeadsUp before provider path top
  pub first : origin ≡ prefix_of top 0

-- that of a replica's commits is what its `stored` line reported, where the replica wanted
-- the same, and none else
abbrev pub reported_origin : Search → Option Storing → Option Origin
reported_origin search None = None
reported_origin search (Some stored) =
    if is_same_search stored.search search then stored.origin else None

pub record IsPassedOn
    (before : List Order) (said : List ReportLine) (provider : List ℕ) (search : Search)
    (n : ℕ) (origin : Option Origin) : Type 0 where
  pub by : Following
  pub replica : follows_now before provider ≡ Some by
  pub earlier : ℕ
  pub counted : n ≡ earlier + 1
  pub passed : origin ≡ reported_origin search (slice_get (stored_of provider said) earlier)

abbrev pub IsOrigin : List Order → List ReportLine → List ℕ → Search → ℕ → Option Origin → Type 0
IsOrigin before said provider search n origin =
    IsOwnOrigin before provider n origin
    ⊎ (IsFirstOrigin before provider n origin ⊎ IsPassedOn before said provider search n origin)

-- the entries are what is wanted of this prefix of a root's accepted writes too
pub record IsOfRoot
    (before : List Order) (search : Search) (entries : List Entry) (origin : Origin) : Type 0 where
  pub history : ℕ
  pub writes : List Write
  pub accepted : AreOfRoot before origin.root history writes
  pub prefix : origin.number ≤ length writes
  pub exactly : entries ≡ select search (entries_after history (take origin.number writes))

-- a `stored` line after these orders and lines: it names a prefix of the accepted writes of the
-- consumer's provider, which is no shorter than it was when the consumer's search was opened, and
-- the cookie that the consumer holds then is that of this prefix: its number is how many of these
-- writes have CSNs that are not greater than the cookie's own; the entries are what the consumer
-- wants of that prefix; they are those that it reported before, with the stage in effect; and where
-- an origin is reported, they are what it wants of that prefix of a root's writes
pub record IsPrefixSelected
    (before : List Order) (said : List ReportLine) (consumer : List ℕ)
    (stored : Storing) : Type 0 where
  pub follows : FollowsWrites before said consumer
  pub prefix : stored.number ≤ length follows.writes
  pub opening : ReportedOpening
  pub latest : (known_of consumer said).opening ≡ Some opening
  pub no_shorter : opening.writes ≤ stored.number
  pub cookie :
      stored.commit.cookie
      ≡ Some (cookie_after follows.history follows.history follows.writes stored.number)
  pub names :
      NamesPrefix (cookie_after follows.history follows.history follows.writes stored.number)
      follows.history follows.writes stored.number
  pub exactly :
      stored.entries
      ≡ select follows.search
      (entries_after follows.history (take stored.number follows.writes))
  pub staged :
      committed (known_of consumer said).entries stored.commit.puts stored.commit.drops
      ≡ stored.entries
  pub wanted : stored.search ≡ follows.search
  pub from :
      IsOrigin before said follows.provider follows.search stored.number stored.origin
  pub of_root : IfSome stored.origin (IsOfRoot before follows.search stored.entries)

-- an `opened` or a `refused` line: of the cookie that the consumer holds then, its
-- provider can say this
pub record OfCookie
    (before : List Order) (said : List ReportLine) (consumer : List ℕ)
    (Says : Bool → ℕ → List Write → Option (List ℕ) → Type 0) : Type 0 where
  pub follows : FollowsWrites before said consumer
  pub says : Says follows.reload follows.history follows.writes (known_of consumer said).cookie

-- all that was sent since an opening, this message too, is a prefix of the messages of a search
-- from the cookie that was held then over these writes, whose walk was decided in some pieces, or
-- such a prefix and the end with busy. Therefore a refresh from a cookie sends an entry whole only
-- where the writes after those of the cookie up to the number of its last piece, which its end
-- names, touched its identity, and each later message but the end names what the write that it
-- reports of changed
pub record IsNextOf
    (history : ℕ) (search : Search) (writes : List Write)
    (opening : ReportedOpening) (octets : List ℕ) : Type 0 where
  pub start : Start
  pub begins : BeginsFrom history (take opening.writes writes) opening.cookie (number_of start)
  pub pieces : List RefreshPiece
  pub cut : IsCut (session_over history search writes opening) start opening.writes pieces
  pub count : ℕ
  pub upto : last_mark opening.writes pieces + count ≤ length writes
  pub earlier : List SyncMessage
  pub before : opening.sent ≡ map sent_octets earlier
  pub message : SyncMessage
  pub spelled : octets ≡ sent_octets message
  pub place :
      Follows opening (length writes)
      (stream_over history search writes opening start pieces count) earlier message
  pub entry_changes :
      length earlier < length (refresh_over history search writes opening start pieces)
      → (number : ℕ) (entry : Entry) → number_of start ≡ Some number
      → sent_entry message ≡ Some entry
      → among entry.uuid (touched_over history writes number (last_mark opening.writes pieces))
      ≡ true
  pub changes :
      length (refresh_over history search writes opening start pieces) ≤ length earlier
      → (message ≡ busy_end)
      ⊎ ReportsChange (session_over history search writes opening)
      (refresh_over history search writes opening start pieces) (last_mark opening.writes pieces)
      (length writes) earlier message

-- a `sent` line
pub record IsOfStream
    (before : List Order) (said : List ReportLine) (consumer octets : List ℕ) : Type 0 where
  pub follows : FollowsWrites before said consumer
  pub opening : ReportedOpening
  pub latest : (known_of consumer said).opening ≡ Some opening
  pub next : IsNextOf follows.history follows.search follows.writes opening octets

-- of the messages that were sent since an opening, one fills the stage of a copy with these
-- entries: those before it meet no limit, and it puts an entry, with which the entries that are
-- staged as puts are more, or heavier, than a directory may have. A write came since the opening,
-- for what is decided at one moment is within the limits
pub record IsStageFull
    (entries : List Entry) (opening : ReportedOpening) (most : ℕ) (fault : List ℕ) : Type 0 where
  pub named : fault ≡ codes "StageFull"
  pub since : opening.writes < most
  pub earlier : List SyncMessage
  pub message : SyncMessage
  pub rest : List SyncMessage
  pub sent : opening.sent ≡ map sent_octets (earlier ++ message ∷ rest)
  pub fills :
      FillsStage message_id
      (asked message_id opening.persists
      (record { held = entries; cookie = opening.cookie; session = None }))
      earlier message

-- a `fault` line
pub record IsFaultOf
    (before : List Order) (said : List ReportLine) (consumer fault : List ℕ) : Type 0 where
  pub follows : FollowsWrites before said consumer
  pub opening : ReportedOpening
  pub latest : (known_of consumer said).opening ≡ Some opening
  pub full :
      IsStageFull (known_of consumer said).entries opening (length follows.writes) fault

-- a `settled` line: it reports the number of the provider's accepted writes, and the entries that
-- the consumer's last `stored` line reported are what it wants of all of them
pub record IsSettled
    (before : List Order) (said : List ReportLine) (consumer : List ℕ) (n : ℕ) : Type 0 where
  pub follows : FollowsWrites before said consumer
  pub all : n ≡ length follows.writes
  pub exactly :
      (known_of consumer said).entries
      ≡ select follows.search (entries_after follows.history follows.writes)

-- what is shown of a root or a replica: the entries after all its accepted writes
pub record IsDirectoryShown
    (before : List Order) (said : List ReportLine) (name : List ℕ)
    (entries : List Entry) : Type 0 where
  pub history : ℕ
  pub writes : List Write
  pub accepted : AreWritesOf before said name history writes
  pub exactly : entries ≡ entries_after history writes

-- and of a consumer: the entries that its last `stored` line reported
pub record IsCopyShown
    (before : List Order) (said : List ReportLine) (name : List ℕ)
    (entries : List Entry) : Type 0 where
  pub provider : List ℕ
  pub search : Search
  pub reload : Bool
  pub follows : IsConsumer before name provider search reload
  pub exactly : entries ≡ (known_of name said).entries

abbrev pub IsShown : List Order → List ReportLine → List ℕ → List Entry → Type 0
IsShown before said name entries =
    IsDirectoryShown before said name entries ⊎ IsCopyShown before said name entries

-- a cookie is lost or given where an order says so, and is lost where something else is wanted
abbrev pub IsGiven : Order → List ℕ → Option (List ℕ) → Type 0
IsGiven (asks.Lose name) consumer cookie = (consumer ≡ name) × (cookie ≡ None)
IsGiven (asks.Cookie name text) consumer cookie = (consumer ≡ name) × (cookie ≡ Some text)
IsGiven (asks.Respec name search) consumer cookie = (consumer ≡ name) × (cookie ≡ None)
IsGiven _ consumer cookie = ⊥

-- the clocks show the time that an order says
abbrev pub IsClocked : Order → ℕ → Type 0
IsClocked (asks.Clock new) time = time ≡ new
IsClocked _ time = ⊥

-- a search is asked for in the mode that the order says, and ends with its refresh where a
-- consumer is brought up
abbrev pub IsAskedFor : Order → Bool → Type 0
IsAskedFor (asks.OpenStay name) persists = persists ≡ true
IsAskedFor _ persists = persists ≡ false

-- an `opened` line reports the number of the provider's accepted writes, and comes where no
-- cookie is in the way
abbrev pub IsOpenedAt : ℕ → Bool → ℕ → List Write → Option (List ℕ) → Type 0
IsOpenedAt n reload history writes cookie =
    (n ≡ length writes) × IsServedCookie reload history writes cookie

-- a search is refused with e-syncRefreshRequired, exactly where the cookie is in its way; a
-- search that is over before its consumer knows was ended with busy; and a message is refused by
-- its consumer only where it fills the stage
abbrev pub ReportsRight : List Order → Order → List ReportLine → ReportLine → Type 0
ReportsRight before order said (Stored consumer stored) =
    IsPrefixSelected before said consumer stored
ReportsRight before order said (Opened consumer persists n) =
    IsAskedFor order persists × OfCookie before said consumer (IsOpenedAt n)
ReportsRight before order said (Refused consumer persists code) =
    IsAskedFor order persists × (code ≡ E_SYNC_REFRESH_REQUIRED)
    × OfCookie before said consumer IsUnserved
ReportsRight before order said (Sent consumer message) = IsOfStream before said consumer message
ReportsRight before order said (Ended consumer code) = code ≡ pos BUSY
ReportsRight before order said (Faulted consumer fault) = IsFaultOf before said consumer fault
ReportsRight before order said (Settled consumer n) = IsSettled before said consumer n
ReportsRight before order said (Holds consumer cookie) = IsGiven order consumer cookie
ReportsRight before order said (Clocked time) = IsClocked order time
ReportsRight before order said (Shown name entries) = IsShown before said name entries
ReportsRight before order said _ = Unit {0}

abbrev pub EachReportsRight : List Order → Order → List ReportLine → List ReportLine → Type 0
EachReportsRight before order said [] = Unit {0}
EachReportsRight before order said (line ∷ reported) =
    ReportsRight before order said line × EachReportsRight before order (said ++ line ∷ []) reported

-- each line of these orders, which come after those before and their lines, is right for the orders
-- and lines before it
abbrev pub LinesAreRight :
    List Order → List ReportLine → List Order → List (List ReportLine) → Type 0
LinesAreRight before said [] report = Unit {0}
LinesAreRight before said (order ∷ orders) [] = Unit {0}
LinesAreRight before said (order ∷ orders) (reported ∷ report) =
    EachReportsRight before order said reported
    × LinesAreRight (before ++ order ∷ []) (said ++ reported) orders report
