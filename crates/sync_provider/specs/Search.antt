-- A search that is open (RFC 4533, sections 3.3 and 3.4).
use Rattle.std.specs.Prelude.{ℕ, pos, Bool, true, false, cond, List, [], ◌∷◌, length, map, take, None}
use Rattle.ldap_constants.specs.declared.result_codes.TheConstants.{BUSY}
use Rattle.csn_cookie.specs.Csn.{start}
use Rattle.csn_cookie.specs.Cookie.{cookie_text}
use Rattle.entry_tree.specs.declared.op.Write.{Write}
use Rattle.entry_tree.specs.History.{state_of}
use Rattle.entry_tree.specs.Selection.{Search}
use Rattle.sync_model.specs.Message.{CookieText, SyncMessage}
use Rattle.sync_model.specs.Message.SyncMessage.{AddOrModify, Delete, Present, IdSet, NewCookie, RefreshDelete, RefreshPresent, Done, Ignored}
use Rattle.sync_model.specs.Stream.{SyncOperation, Start}
use Rattle.sync_slices.specs.Slices.{SlicedRefresh, SliceProgress, most_decided, first_progress, handed_on, pending_now}
use Rattle.directory_writes.specs.Directory.{DirectoryState, cookie_at, last_csn}
use Rattle.sync_provider.specs.declared.refresh_item.RefreshItem.{RefreshItem}
use Rattle.sync_provider.specs.declared.refresh_item.RefreshItem.TheVariants as part

-- ---- the messages that it is to send

-- the cookie of the content after n of the writes of a directory
abbrev pub cookie_after : ℕ → ℕ → List Write → ℕ → CookieText
cookie_after sid history writes count =
    cookie_text (cookie_at sid history (last_csn (start sid) (take count writes)))

-- a search over these writes, which goes on after its refresh (refreshAndPersist) or ends
-- with it (refreshOnly)
abbrev pub session_of : (persists : Bool) → ℕ → ℕ → Search → List Write → SyncOperation
session_of persists sid history spec writes =
    record {
      persists = persists;
      selection = spec;
      states = state_of history writes;
      cookies = cookie_after sid history writes;
    }

-- what is decided when of its refresh
abbrev pub sliced_from : SyncOperation → Start → ℕ → SlicedRefresh
sliced_from operation start count = record {
  operation = operation;
  start = start;
  accepted = count;
  size = most_decided;
}

-- the same of a refresh on a directory
abbrev pub sliced_in :
    DirectoryState → Search → Start → (persists : Bool) → (accepted : ℕ) → SlicedRefresh
sliced_in d spec start persists accepted =
    sliced_from (session_of persists d.sid d.history spec d.writes) start accepted

-- ---- a search

-- the message ID of its messages, its specification, where it begins, how many writes the directory
-- had at its acceptance, and whether it goes on after its refresh; how far its pieces are decided,
-- and what is not handed out yet of its refresh and of the messages of later writes; and whether a
-- write did not fit, after which nothing more is sent but the end
pub record SearchState : Type 0 where
  pub id : ℕ
  pub spec : Search
  pub start : Start
  pub accepted : ℕ
  pub persists : Bool
  pub progress : SliceProgress
  pub over : Bool

-- its refresh over these writes of a directory with this number and this history
abbrev pub sliced_over : (sid history : ℕ) → List Write → SearchState → SlicedRefresh
sliced_over sid history writes s =
    sliced_from (session_of s.persists sid history s.spec writes) s.start s.accepted

abbrev pub sliced : DirectoryState → SearchState → SlicedRefresh
sliced d s = sliced_over d.sid d.history d.writes s

-- a search that is accepted: its first piece is decided
abbrev pub opening : DirectoryState → ℕ → Search → Start → (persists : Bool) → SearchState
opening d id spec start persists = record {
  id = id;
  spec = spec;
  start = start;
  accepted = length d.writes;
  persists = persists;
  progress =
      first_progress
      (sliced_from (session_of persists d.sid d.history spec d.writes) start (length d.writes));
  over = false;
}

-- the end with the code busy (RFC 4511, appendix A.2)
abbrev pub busy_end : SyncMessage
busy_end = Done (pos BUSY) None

-- what is handed out next on this directory, in order, where no write comes: the refresh, then
-- what the later writes sent
abbrev pub pending : DirectoryState → SearchState → List SyncMessage
pending d s =
    cond s.over (busy_end ∷ []) (pending_now (sliced d s) (length d.writes) s.progress)

-- SearchResultDone ends a search
abbrev pub is_end : SyncMessage → Bool
is_end (AddOrModify adds entry cookie) = false
is_end (Delete uuid name cookie) = false
is_end (Present uuid cookie) = false
is_end (IdSet deletes uuids cookie) = false
is_end (NewCookie cookie) = false
is_end (RefreshDelete done cookie) = false
is_end (RefreshPresent done cookie) = false
is_end (Done code control) = true
is_end Ignored = false

-- without the first message, which was handed out; the pieces that it needed are decided
abbrev pub advanced : DirectoryState → SearchState → SearchState
advanced d s = record s { progress = handed_on (sliced d s) (length d.writes) s.progress }

-- ---- the parts that it is kept by

-- the message of a part
abbrev pub message_of : RefreshItem → SyncMessage
message_of (part.Whole entry) = AddOrModify true entry None
message_of (part.Names deletes uuids) = IdSet deletes uuids.items None
message_of part.PresentPhaseEnds = RefreshPresent false None
message_of (part.Ends end) = end

abbrev pub messages_of : List RefreshItem → List SyncMessage
messages_of parts = map message_of parts
