-- What holds of a provider over every list of calls: its writes, what it knows of what they
-- touched, and what its searches hand out (RFC 4533, sections 3.3 and 3.4).
use Rattle.std.specs.Prelude.{◌≡◌, ◌≤◌, ⊤, ℕ, ◌+◌, Bool, true, false, cond, not, ◌&&◌, ◌||◌, nat_eq, nat_lt, List, [], ◌∷◌, ◌++◌, length, take, Option, Some, None, option_map, Result, Ok, Err, All, filter_map}
use Rattle.std.specs.List.{list_all}
use Rattle.csn_cookie.specs.Csn.{start, upto}
use Rattle.dn_names.specs.Names.{TypeAndValue}
use Rattle.entry_tree.specs.declared.op.Op.{Op}
use Rattle.entry_tree.specs.declared.op.Op.TheVariants.{Commit}
use Rattle.entry_tree.specs.declared.op.Write.{Write}
use Rattle.entry_tree.specs.Fitting.{is_within_entry_limit}
use Rattle.entry_tree.specs.History.{state_of, touched_over}
use Rattle.entry_tree.specs.Selection.{search_of}
use Rattle.entry_tree.specs.Sound.{is_commit, is_sound_op, is_sound_put}
use Rattle.session_log.specs.Log.{covers, since}
use Rattle.sync_model.specs.Incremental.{number_of, sent_entry}
use Rattle.sync_model.specs.Message.{SyncMessage}
use Rattle.sync_model.specs.Stream.{SyncOperation, among, last_mark, refresh}
use Rattle.sync_slices.specs.Law.{IsAt}
use Rattle.sync_slices.specs.Slices as slices
use Rattle.sync_slices.specs.Slices.{SlicedRefresh, all_pieces, stream_upto, marks_then}
use Rattle.sync_provider.specs.Accepting.{answer_to, start_of_ask, persists_of_ask}
use Rattle.sync_provider.specs.Committing.{commit_refusal}
use Rattle.directory_writes.specs.Directory.{DirectoryState, last_csn, csns, judged, with_write, AreAccepted}
use Rattle.sync_provider.specs.HandingOut.{search_at}
use Rattle.sync_provider.specs.Machine.{ProviderState, ProviderCall, fresh, judged_by, accepted, called, run}
use Rattle.sync_provider.specs.Machine.ProviderCall.{Writes, Commits, Accepts, HandsOut, Drops, SetsLogLimit, SetsQueueLimit}
use Rattle.sync_provider.specs.Queueing.{limits_of}
use Rattle.sync_provider.specs.Search.{SearchState, session_of, sliced_over, opening, busy_end, pending, advanced, is_end}
use Rattle.directory_writes.specs.Touches.{last_touch}
use Rattle.sync_provider.specs.declared.provider.Kind.{Kind}
use Rattle.sync_provider.specs.declared.searches.Accepted.TheVariants.{Opened}
use Rattle.sync_provider.specs.declared.searches.SyncSearch.{SyncSearch}
use Rattle.sync_provider.specs.declared.writing.CommitFault.{CommitFault}

-- ---- the writes

-- a write that a client may ask for, a commit of entries that a directory may have, or another call
abbrev pub is_sound_call : ProviderCall → Bool
is_sound_call (Writes op now) = is_sound_op op && not (is_commit op)
is_sound_call (Commits puts drops now) = list_all is_sound_put puts
    && list_all is_within_entry_limit puts
is_sound_call (Accepts ask) = true
is_sound_call (HandsOut number) = true
is_sound_call (Drops number) = true
is_sound_call (SetsLogLimit limit) = true
is_sound_call (SetsQueueLimit limit) = true

-- after every list of sound calls, each kept write was accepted on the entries before it
abbrev pub WritesWereAccepted : Type 0
WritesWereAccepted =
    (suffix : List (List TypeAndValue)) (sid history : ℕ) (kind : Kind) (calls : List ProviderCall)
    → list_all is_sound_call calls ≡ true
    → AreAccepted suffix history (run (fresh suffix sid history kind) calls).directory.writes

-- n CSNs are not above that of the write of that number, or above the one before all
-- where the number is 0
abbrev pub NamesItsPrefix : ℕ → List Write → Type 0
NamesItsPrefix sid writes =
    (number : ℕ) → number ≤ length writes
    → upto (csns writes) (last_csn (start sid) (take number writes)) ≡ number

-- after every list of calls, the CSN in the cookie of a content reports how many writes led to it
abbrev pub CookiesNameTheirPrefix : Type 0
CookiesNameTheirPrefix =
    (suffix : List (List TypeAndValue)) (sid history : ℕ) (kind : Kind) (calls : List ProviderCall)
    → NamesItsPrefix sid (run (fresh suffix sid history kind) calls).directory.writes

-- ---- what the writes touched

-- a directory after some calls, and a history that begins with its writes
abbrev pub BeginsWith : DirectoryState → List Write → Type 0
BeginsWith d writes = (more : List Write) × (d.writes ++ more ≡ writes)

-- above its floor the log reports exactly the identities that the writes since a number touched,
-- ascending and each once; and it covers the number of all writes
abbrev pub LogShows : DirectoryState → Type 0
LogShows d =
    ((writes : List Write) → BeginsWith d writes → (number : ℕ) → covers number d.log ≡ true
    → number ≤ length d.writes
    → since number d.log ≡ touched_over d.history writes number (length d.writes))
    × (covers (length d.writes) d.log ≡ true)

-- after every list of calls
abbrev pub LogsShowWhatWasTouched : Type 0
LogsShowWhatWasTouched =
    (suffix : List (List TypeAndValue)) (sid history : ℕ) (kind : Kind) (calls : List ProviderCall)
    → LogShows (run (fresh suffix sid history kind) calls).directory

-- the number of an identity's last touch is above a number exactly where the writes
-- since then touched it
abbrev pub NumberShows : DirectoryState → Type 0
NumberShows d =
    (writes : List Write) → BeginsWith d writes → (number uuid : ℕ) → number ≤ length d.writes
    → nat_lt number (last_touch (state_of d.history d.writes) (length d.writes) uuid)
    ≡ among uuid (touched_over d.history writes number (length d.writes))

-- after every list of calls
abbrev pub NumbersShowWhatWasTouched : Type 0
NumbersShowWhatWasTouched =
    (suffix : List (List TypeAndValue)) (sid history : ℕ) (kind : Kind) (calls : List ProviderCall)
    → NumberShows (run (fresh suffix sid history kind) calls).directory

-- ---- the Stream of a search

-- a search as it was opened on a directory with this number and this history, over writes that
-- begin with those then
abbrev pub session_at : DirectoryState → SearchState → List Write → SyncOperation
session_at d s writes = session_of s.persists d.sid d.history s.spec writes

-- its refresh, which is decided in pieces
abbrev pub refresh_at : DirectoryState → SearchState → List Write → SlicedRefresh
refresh_at d s writes = sliced_over d.sid d.history writes s

-- all its messages up to n writes, where its pieces were decided at these numbers of writes, and
-- what is left of its walk at n
abbrev pub stream_of :
    DirectoryState → SearchState → (marks : List ℕ) → (count : ℕ) → List Write → List SyncMessage
stream_of d s marks count writes = stream_upto (refresh_at d s writes) marks count

-- ---- what holds of each open search

-- these messages of its refresh, and these of what the writes up to now send, were handed out, and
-- what is kept of it is what follows them, over each history that begins with these writes
abbrev pub IsAtItsPlace :
    DirectoryState → SearchState → (handed handed_later : List SyncMessage) → Type 0
IsAtItsPlace d s handed handed_later =
    (writes : List Write) → BeginsWith d writes
    → IsAt (refresh_at d s writes) (length d.writes) s.progress handed handed_later

pub record IsPlaced (d : DirectoryState) (s : SearchState) : Type 0 where
  pub handed : List SyncMessage
  pub handed_later : List SyncMessage
  pub place : IsAtItsPlace d s handed handed_later

-- as many of its messages as these were handed out
pub record HasHandedOut (d : DirectoryState) (s : SearchState) (count : ℕ) : Type 0 where
  pub now : IsPlaced d s
  pub counted : count ≡ length now.handed + length now.handed_later

-- where no write was too much
abbrev pub KeepsItsPlace : DirectoryState → SearchState → Type 0
KeepsItsPlace d s = s.over ≡ false → IsPlaced d s

abbrev pub EachSearch : (SearchState → Type 0) → List (ℕ × SearchState) → Type 0
EachSearch P [] = ⊤
EachSearch P (search ∷ searches) = P search.1 × EachSearch P searches

-- after every list of calls, each open search is at its place in its Stream
abbrev pub SearchesKeepTheirPlace : Type 0
SearchesKeepTheirPlace =
    (suffix : List (List TypeAndValue)) (sid history : ℕ) (kind : Kind) (calls : List ProviderCall)
    → EachSearch (KeepsItsPlace (run (fresh suffix sid history kind) calls).directory)
    (run (fresh suffix sid history kind) calls).searches

-- ---- what one search hands out over the calls after its acceptance

-- what was handed out up to a moment; and then, what is pending, at which numbers of writes its
-- pieces were decided, whether a write was too much, and the number of writes
pub record Delivery : Type 0 where
  pub handed : List SyncMessage
  pub pending : List SyncMessage
  pub marks : List ℕ
  pub over : Bool
  pub writes : ℕ

abbrev pub pending_of : DirectoryState → Option SearchState → List SyncMessage
pending_of d None = []
pending_of d (Some s) = pending d s

abbrev pub pending_at : ProviderState → ℕ → List SyncMessage
pending_at p number = pending_of p.directory (search_at p.searches number)

abbrev pub marks_of : Option SearchState → List ℕ
marks_of None = []
marks_of (Some s) = s.progress.marks

abbrev pub over_of : Option SearchState → Bool
over_of None = false
over_of (Some s) = s.over

-- nothing was handed out, and so much is pending
abbrev pub delivered_now : ProviderState → ℕ → (handed pending : List SyncMessage) → Delivery
delivered_now p number handed pending =
    record {
      handed = handed;
      pending = pending;
      marks = marks_of (search_at p.searches number);
      over = over_of (search_at p.searches number);
      writes = length p.directory.writes;
    }

-- an end is handed out, which may decide the last pieces
abbrev pub ended_now : ProviderState → ℕ → SyncMessage → List SyncMessage → Delivery
ended_now p number message rest =
    record (delivered_now p number (message ∷ []) rest) {
      marks = marks_of (option_map (advanced p.directory) (search_at p.searches number));
    }

-- the first message is handed out, then what follows; after an end nothing follows
abbrev pub first_delivered : ProviderState → ℕ → List SyncMessage → Delivery → Delivery
first_delivered p number [] later = later
first_delivered p number (message ∷ rest) later =
    cond (is_end message) (ended_now p number message rest)
    (record later { handed = message ∷ later.handed })

-- what the search with this number reports over these calls, up to its end or
-- to where it is dropped
abbrev pub delivered : ℕ → ProviderState → List ProviderCall → Delivery
delivered number p [] = delivered_now p number [] (pending_at p number)
delivered number p (Writes op now ∷ calls) = delivered number (called p (Writes op now)) calls
delivered number p (Commits puts drops now ∷ calls) =
    delivered number (called p (Commits puts drops now)) calls
delivered number p (Accepts ask ∷ calls) = delivered number (called p (Accepts ask)) calls
delivered number p (SetsLogLimit limit ∷ calls) =
    delivered number (called p (SetsLogLimit limit)) calls
delivered number p (SetsQueueLimit limit ∷ calls) =
    delivered number (called p (SetsQueueLimit limit)) calls
delivered number p (HandsOut other ∷ calls) =
    cond (nat_eq other number)
    (first_delivered p number (pending_at p number)
    (delivered number (called p (HandsOut other)) calls))
    (delivered number (called p (HandsOut other)) calls)
delivered number p (Drops other ∷ calls) =
    cond (nat_eq other number) (delivered_now p number [] (pending_at p number))
    (delivered number (called p (Drops other)) calls)

-- all that a search reports, up to its end or to where it is dropped or looked at
abbrev pub all_delivered : Delivery → List SyncMessage
all_delivered t = t.handed ++ t.pending

-- a prefix of these messages, and then the end with the code busy
pub record IsCutShort (messages stream : List SyncMessage) : Type 0 where
  pub prefix : List SyncMessage
  pub left : List SyncMessage
  pub split : prefix ++ left ≡ stream
  pub is : messages ≡ prefix ++ busy_end ∷ []

-- all of its Stream up to those writes, unless a write was too much
abbrev pub Delivers : (over : Bool) → (messages stream : List SyncMessage) → Type 0
Delivers false messages stream = messages ≡ stream
Delivers true messages stream = IsCutShort messages stream

-- the search that is opened where this is asked for
abbrev pub asked : ProviderState → SyncSearch → SearchState
asked p ask =
    opening p.directory ask.id (search_of ask.spec) (start_of_ask p.directory ask)
    (persists_of_ask ask)

-- what a search that is accepted here hands out, followed by what is pending, is its
-- Stream, or is cut short
abbrev pub DeliversItsStream : ProviderState → SyncSearch → ℕ → List ProviderCall → Type 0
DeliversItsStream p ask number calls =
    (writes : List Write) → BeginsWith (run (accepted p ask) calls).directory writes
    → Delivers (delivered number (accepted p ask) calls).over
    (all_delivered (delivered number (accepted p ask) calls))
    (stream_of p.directory (asked p ask) (delivered number (accepted p ask) calls).marks
    (delivered number (accepted p ask) calls).writes writes)

abbrev pub SearchesDeliverTheirStreams : Type 0
SearchesDeliverTheirStreams =
    (suffix : List (List TypeAndValue)) (sid history : ℕ) (kind : Kind)
    (before after : List ProviderCall)
    (ask : SyncSearch) (number count : ℕ)
    → answer_to (run (fresh suffix sid history kind) before).directory
    (run (fresh suffix sid history kind) before).searches ask
    ≡ Opened number count
    → DeliversItsStream (run (fresh suffix sid history kind) before) ask number after

-- ---- when a write is too much, by the writes and a count of what was handed out

-- how many messages were handed out, at which numbers of writes the pieces were decided, and
-- whether a write was too much since
pub record Tally : Type 0 where
  pub handed : ℕ
  pub marks : List ℕ
  pub over : Bool

-- a write that adds to the items, after which they are more, or heavier, than they may be
abbrev pub is_too_much :
    ℕ → DirectoryState → SearchState → Write → (marks : List ℕ) → (handed : ℕ) → Bool
is_too_much limit d s write marks handed =
    slices.is_too_much (limits_of limit) (refresh_at d s (d.writes ++ write ∷ [])) marks handed
    (length d.writes)

abbrev pub after_write : ProviderState → SearchState → Result Write ℕ → Tally → Tally
after_write p s (Err code) t = t
after_write p s (Ok write) t =
    record t {
      over = t.over || is_too_much p.queue_limit p.directory s write t.marks t.handed;
    }

-- a commit is a write where nothing rejects it
abbrev pub after_commit : ProviderState → SearchState → Op → ℕ → Option CommitFault → Tally → Tally
after_commit p s op now None t = after_write p s (judged p.directory op now) t
after_commit p s op now (Some fault) t = t

-- one message more, where one is left; the pieces that it needs are decided then
abbrev pub hand_out_counted : SlicedRefresh → (now : ℕ) → Tally → Tally
hand_out_counted r now t =
    cond (not t.over && nat_lt t.handed (length (stream_upto r t.marks now)))
    (record t { handed = t.handed + 1; marks = marks_then r t.handed now t.marks }) t

abbrev pub after_hand_out : ProviderState → SearchState → Tally → Tally
after_hand_out p s t = hand_out_counted (refresh_at p.directory s p.directory.writes)
    (length p.directory.writes) t

-- the tally over these calls, before the search with this number is dropped. Of the provider this
-- looks at the writes and the queue limit alone
abbrev pub tally_after : ℕ → SearchState → ProviderState → Tally → List ProviderCall → Tally
tally_after number s p t [] = t
tally_after number s p t (Writes op now ∷ calls) =
    tally_after number s (called p (Writes op now))
    (after_write p s (judged_by p.kind p.directory op now) t) calls
tally_after number s p t (Commits puts drops now ∷ calls) =
    tally_after number s (called p (Commits puts drops now))
    (after_commit p s (Commit puts drops) now (commit_refusal p.kind p.directory puts drops now) t)
    calls
tally_after number s p t (Accepts ask ∷ calls) =
    tally_after number s (called p (Accepts ask)) t calls
tally_after number s p t (SetsLogLimit limit ∷ calls) =
    tally_after number s (called p (SetsLogLimit limit)) t calls
tally_after number s p t (SetsQueueLimit limit ∷ calls) =
    tally_after number s (called p (SetsQueueLimit limit)) t calls
tally_after number s p t (HandsOut other ∷ calls) =
    tally_after number s (called p (HandsOut other))
    (cond (nat_eq other number) (after_hand_out p s t) t) calls
tally_after number s p t (Drops other ∷ calls) =
    cond (nat_eq other number) t (tally_after number s (called p (Drops other)) t calls)

-- over every list of calls, the pieces of a search are decided at these numbers of writes, and it
-- ends with the code busy exactly where a write is too much for it
abbrev pub AreCounted : Delivery → Tally → Type 0
AreCounted delivery tally = (delivery.marks ≡ tally.marks) × (delivery.over ≡ tally.over)

abbrev pub QueuesOverflowExactly : Type 0
QueuesOverflowExactly =
    (suffix : List (List TypeAndValue)) (sid history : ℕ) (kind : Kind)
    (before after : List ProviderCall)
    (ask : SyncSearch) (number count : ℕ)
    → answer_to (run (fresh suffix sid history kind) before).directory
    (run (fresh suffix sid history kind) before).searches ask
    ≡ Opened number count
    → AreCounted
    (delivered number (accepted (run (fresh suffix sid history kind) before) ask) after)
    (tally_after number (asked (run (fresh suffix sid history kind) before) ask)
    (accepted (run (fresh suffix sid history kind) before) ask)
    (record { handed = 0; marks = count ∷ []; over = false }) after)

-- ---- what is sent from a cookie

-- the number of writes at the last piece, where what is left of the walk is decided now
abbrev pub last_piece : SlicedRefresh → Delivery → ℕ
last_piece r delivery = last_mark r.accepted (all_pieces r delivery.marks delivery.writes)

-- what a search reports of its refresh: as many messages as that has, or all that it reports
abbrev pub refresh_delivered :
    ProviderState → SyncSearch → ℕ → List ProviderCall → List Write → List SyncMessage
refresh_delivered p ask number calls writes =
    let delivery = delivered number (accepted p ask) calls in
    let r = refresh_at p.directory (asked p ask) writes in
    take
    (length (refresh r.operation r.start r.accepted (all_pieces r delivery.marks delivery.writes)))
    (all_delivered delivery)

-- from a servable cookie a refresh sends an entry whole only where the writes after those of the
-- cookie, up to the number of writes at its last piece, touched its identity
abbrev pub SendsWhatWasTouched : ProviderState → SyncSearch → ℕ → List ProviderCall → Type 0
SendsWhatWasTouched p ask number calls =
    (writes : List Write) → BeginsWith (run (accepted p ask) calls).directory writes
    → (prefix : ℕ) → number_of (start_of_ask p.directory ask) ≡ Some prefix
    → All
    (λ entry.
    among entry.uuid
    (touched_over p.directory.history writes prefix
    (last_piece (refresh_at p.directory (asked p ask) writes)
    (delivered number (accepted p ask) calls)))
    ≡ true)
    (filter_map sent_entry (refresh_delivered p ask number calls writes))

-- after every list of calls, and whatever is called later; the refresh ends with the cookie of the
-- number of writes at its last piece
abbrev pub RefreshesAreIncremental : Type 0
RefreshesAreIncremental =
    (suffix : List (List TypeAndValue)) (sid history : ℕ) (kind : Kind)
    (before after : List ProviderCall)
    (ask : SyncSearch) (number count : ℕ)
    → answer_to (run (fresh suffix sid history kind) before).directory
    (run (fresh suffix sid history kind) before).searches ask
    ≡ Opened number count
    → SendsWhatWasTouched (run (fresh suffix sid history kind) before) ask number after
