-- The end of a refresh, as it is kept.
use Rattle.std.specs.Prelude.{◌≡◌, ◌<◌, Bool}
use Rattle.csn_cookie.specs.declared.cookie.Cookie.{Cookie}
use Rattle.sync_model.specs.Message.{CookieText, SyncMessage}
use Rattle.sync_model.specs.Stream.{end_of}

-- the cookie has a text
pub record HasText (cookie : Cookie) : Type 0 where
  pub rid : cookie.rid < 1000
  pub sid : cookie.sid < 4096

-- the message ends the refresh of a search that goes on, or else ends with it
pub record IsEndOf (persists : Bool) (message : SyncMessage) : Type 0 where
  pub deletes : Bool
  pub cookie : CookieText
  pub is : message ≡ end_of persists deletes cookie
