-- What the messages of a search with content synchronisation say (RFC 4533, sections 2.2 to 2.5).
use Rattle.std.specs.Prelude.{ℕ, ℤ, Bool, true, false, List, Option}
use Rattle.entry_tree.specs.declared.entry.Entry.{Entry}

-- the text of a cookie
abbrev pub CookieText : Type 0
CookieText = List ℕ

pub data SyncMessage : Type 0 where
  -- an entry in the state add or modify, whole
  AddOrModify : (adds : Bool) (entry : Entry) (cookie : Option CookieText) → SyncMessage
  -- an entry in the state delete, with the text of the name that it had
  Delete : (uuid : ℕ) (name : List ℕ) (cookie : Option CookieText) → SyncMessage
  -- an entry in the state present
  Present : (uuid : ℕ) (cookie : Option CookieText) → SyncMessage
  -- syncIdSet: entries that are deleted, or else present
  IdSet : (deletes : Bool) (uuids : List ℕ) (cookie : Option CookieText) → SyncMessage
  -- newcookie
  NewCookie : (cookie : CookieText) → SyncMessage
  -- refreshDelete: a delete phase ends; the refresh is done with it, or goes on
  RefreshDelete : (done : Bool) (cookie : Option CookieText) → SyncMessage
  -- refreshPresent: a present phase ends, likewise
  RefreshPresent : (done : Bool) (cookie : Option CookieText) → SyncMessage
  -- SearchResultDone with its result code, and what its Sync Done control says, where it has one:
  -- refreshDeletes and the cookie
  Done : (code : ℤ) (control : Option (Bool × Option CookieText)) → SyncMessage
  -- a reference, or an intermediate response of another name
  Ignored : SyncMessage

-- the end of a delete phase, or else of a present phase
abbrev pub phase_end : (deletes done : Bool) → Option CookieText → SyncMessage
phase_end true done cookie = RefreshDelete done cookie
phase_end false done cookie = RefreshPresent done cookie
