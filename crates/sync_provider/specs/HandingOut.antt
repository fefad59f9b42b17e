-- What is handed out of a search.
use Rattle.std.specs.Prelude.{ℕ, Bool, true, false, ℤ, pos, List, [], ◌∷◌, Option, Some, None}
use Rattle.std.specs.Ordering.{nat_cmp}
use Rattle.std.specs.Map.{lookup, remove_entry, set_value}
use Rattle.std.specs.BTreeMap.{is_at}
use Rattle.ldap_constants.specs.declared.result_codes.TheConstants.{SUCCESS}
use Rattle.ldap_messages.specs.Whole.{MessageValue, message_value}
use Rattle.sync_model.specs.Message.{SyncMessage}
use Rattle.sync_model.specs.Message.SyncMessage.{AddOrModify, Delete, Present, IdSet, NewCookie, RefreshDelete, RefreshPresent, Done, Ignored}
use Rattle.sync_wire.specs.Sending.{sent}
use Rattle.directory_writes.specs.Directory.{DirectoryState}
use Rattle.sync_provider.specs.Search.{SearchState, pending, advanced}
use Rattle.sync_provider.specs.declared.handed.Handed.{Handed}
use Rattle.sync_provider.specs.declared.handed.Handed.TheVariants as handed
use Rattle.sync_provider.specs.declared.handed_messages.HandOutStop.{HandOutStop}
use Rattle.sync_provider.specs.declared.handed_messages.HandOutStop.TheVariants as stops

-- what a hand-out answers
pub data HandOut : Type 0 where
  -- the next message, after which the search goes on
  Hands : (message : MessageValue) → HandOut
  -- the end of the search, with its result code
  Closes : (code : ℤ) (message : MessageValue) → HandOut
  -- nothing is pending
  Waits : HandOut
  -- no such search is open
  Unknown : HandOut

abbrev pub turn_of_message : ℕ → SyncMessage → HandOut
turn_of_message id (AddOrModify adds entry cookie) = Hands (sent id (AddOrModify adds entry cookie))
turn_of_message id (Delete uuid name cookie) = Hands (sent id (Delete uuid name cookie))
turn_of_message id (Present uuid cookie) = Hands (sent id (Present uuid cookie))
turn_of_message id (IdSet deletes uuids cookie) = Hands (sent id (IdSet deletes uuids cookie))
turn_of_message id (NewCookie cookie) = Hands (sent id (NewCookie cookie))
turn_of_message id (RefreshDelete done cookie) = Hands (sent id (RefreshDelete done cookie))
turn_of_message id (RefreshPresent done cookie) = Hands (sent id (RefreshPresent done cookie))
turn_of_message id (Done code control) = Closes code (sent id (Done code control))
turn_of_message id Ignored = Hands (sent id Ignored)

-- a message with which its search ends with success, or after which it goes on
abbrev pub ended_or_on : (closes : Bool) → ℕ → SyncMessage → HandOut
ended_or_on true id message = Closes (pos SUCCESS) (sent id message)
ended_or_on false id message = Hands (sent id message)

-- the message that is pending first is handed out
abbrev pub turn_of_pending : ℕ → List SyncMessage → HandOut
turn_of_pending id [] = Waits
turn_of_pending id (message ∷ rest) = turn_of_message id message

abbrev pub turn_of_found : DirectoryState → Option SearchState → HandOut
turn_of_found d None = Unknown
turn_of_found d (Some s) = turn_of_pending s.id (pending d s)

abbrev pub search_at : List (ℕ × SearchState) → ℕ → Option SearchState
search_at searches number = lookup (is_at (nat_cmp number)) searches

-- the turn of the search with this number
abbrev pub turn_at : DirectoryState → List (ℕ × SearchState) → ℕ → HandOut
turn_at d searches number = turn_of_found d (search_at searches number)

-- there is a message in it, which has to be written
abbrev pub has_message : HandOut → Bool
has_message (Hands message) = true
has_message (Closes code message) = true
has_message Waits = false
has_message Unknown = false

-- what a call answered; out of memory is no turn
abbrev pub turn_of : Handed → Option HandOut
turn_of (handed.Message message) = Some (Hands (message_value message))
turn_of (handed.Ended code message) = Some (Closes (pos code) (message_value message))
turn_of handed.Nothing = Some Waits
turn_of handed.NoSuchSearch = Some Unknown
turn_of handed.NoMemory = None

-- it is the end of the search
abbrev pub is_closing : Option HandOut → Bool
is_closing None = false
is_closing (Some (Hands message)) = false
is_closing (Some (Closes code message)) = true
is_closing (Some Waits) = false
is_closing (Some Unknown) = false

-- it is a message after which the search goes on
abbrev pub is_going_on : Option HandOut → Bool
is_going_on None = false
is_going_on (Some (Hands message)) = true
is_going_on (Some (Closes code message)) = false
is_going_on (Some Waits) = false
is_going_on (Some Unknown) = false

-- the reply that no more messages follow; none, where no more were asked for
abbrev pub reply_of : HandOutStop → Option Handed
reply_of stops.Enough = None
reply_of (stops.Ended code message) = Some (handed.Ended code message)
reply_of stops.Nothing = Some handed.Nothing
reply_of stops.NoSuchSearch = Some handed.NoSuchSearch
reply_of stops.NoMemory = Some handed.NoMemory

-- ---- the searches after it

-- the search itself after its turn
abbrev pub after_own_turn : DirectoryState → SearchState → Option HandOut → SearchState
after_own_turn d s None = s
after_own_turn d s (Some (Hands message)) = advanced d s
after_own_turn d s (Some (Closes code message)) = s
after_own_turn d s (Some Waits) = s
after_own_turn d s (Some Unknown) = s

abbrev pub closed : List (ℕ × SearchState) → ℕ → List (ℕ × SearchState)
closed searches number = remove_entry (is_at (nat_cmp number)) searches

abbrev pub handed_on :
    DirectoryState → List (ℕ × SearchState) → ℕ → Option SearchState → List (ℕ × SearchState)
handed_on d searches number None = searches
handed_on d searches number (Some s) = set_value (is_at (nat_cmp number)) searches (advanced d s)

abbrev pub after_turn :
    DirectoryState → List (ℕ × SearchState) → ℕ → HandOut → List (ℕ × SearchState)
after_turn d searches number (Hands message) =
    handed_on d searches number (search_at searches number)
after_turn d searches number (Closes code message) = closed searches number
after_turn d searches number Waits = searches
after_turn d searches number Unknown = searches

-- where memory ran out, all is as before
abbrev pub after_a_turn :
    DirectoryState → List (ℕ × SearchState) → ℕ → Option HandOut → List (ℕ × SearchState)
after_a_turn d searches number None = searches
after_a_turn d searches number (Some turn) = after_turn d searches number turn
