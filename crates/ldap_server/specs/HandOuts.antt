-- How a session hands out what its open searches have pending.
use Rattle.std.specs.Prelude.{◌≡◌, ℕ, ◌+◌, ◌<◌, Bool, true, false, List, [], ◌∷◌, ◌++◌, length, map, take, drop, cond, Option, Some, None, Result, Ok, Err}
use Rattle.std.specs.List.{flat_map}
use Rattle.ldap_messages.specs.Operation.{IsOfGrammar, operation_of}
use Rattle.ldap_messages.specs.declared.message.Message.{Message}
use Rattle.ldap_messages.specs.Whole.{message_value, message_octets}
use Rattle.sync_provider.specs.declared.handed.Handed.TheVariants as handed
use Rattle.sync_provider.specs.declared.handed_messages.HandOutStop.{HandOutStop}
use Rattle.sync_provider.specs.declared.handed_messages.HandOutStop.TheVariants as stops
use Rattle.ldap_server.specs.PortCalls.{PortCall, Exchanged, HandedOut}
use Rattle.ldap_server.specs.Points.{Point, Begun}
use Rattle.ldap_server.specs.SessionState.{SessionState}
use Rattle.ldap_server.specs.declared.session_search.SessionSearch.{SessionSearch}

-- a message as it is sent
abbrev pub octets_of : Message → List ℕ
octets_of message = message_octets (message_value message)

abbrev pub given : ℕ → Message → PortCall
given number message = HandedOut number (handed.Message message)

-- what comes after the messages of one search: nothing is pending, or it is no search of the port;
-- the last message, which ends the search; or, after 64, nothing is asked
pub data Stop : Type 0 where
  Waits : Stop
  Unknown : Stop
  Ends : (code : ℕ) → Message → Stop
  Enough : Stop

-- what is asked last
abbrev pub stop_asked : ℕ → Stop → List PortCall
stop_asked number Waits = HandedOut number handed.Nothing ∷ []
stop_asked number Unknown = HandedOut number handed.NoSuchSearch ∷ []
stop_asked number (Ends code message) = HandedOut number (handed.Ended code message) ∷ []
stop_asked number Enough = []

abbrev pub stop_sent : Stop → List ℕ
stop_sent Waits = []
stop_sent Unknown = []
stop_sent (Ends code message) = octets_of message
stop_sent Enough = []

-- 64 messages at most, the last one of a search among them
abbrev pub IsIn : ℕ → Stop → Type 0
IsIn count Waits = count < 64
IsIn count Unknown = count < 64
IsIn count (Ends code message) = count < 64
IsIn count Enough = count ≡ 64

-- whether the search is still open
abbrev pub stays_open : Stop → Bool
stays_open Waits = true
stays_open Unknown = false
stays_open (Ends code message) = false
stays_open Enough = true

abbrev pub left_open : SessionSearch → Bool → List SessionSearch
left_open search stays = cond stays (search ∷ []) []

-- after the turn of the search at a place: the place of the next one, and the searches that are
-- left
abbrev pub place_after : Bool → ℕ → ℕ
place_after true place = place + 1
place_after false place = place

abbrev pub searches_after : Bool → ℕ → List SessionSearch → List SessionSearch
searches_after true place searches = searches
searches_after false place searches = take place searches ++ drop (place + 1) searches

-- what one search has pending is handed out
pub record SearchTurn
    (search : SessionSearch) (asked : List PortCall) (sent : List ℕ) (stays : Bool) : Type 0 where
  pub messages : List Message
  pub stop : Stop
  pub bounded : IsIn (length messages) stop
  pub asked_is :
      asked ≡ map (given search.number) messages ++ stop_asked search.number stop
  pub sent_is : sent ≡ flat_map octets_of messages ++ stop_sent stop
  pub stays_is : stays ≡ stays_open stop

-- each open search in the order of opening has a turn
abbrev pub Turns : List SessionSearch → List PortCall → List ℕ → List SessionSearch → Type 0
Turns [] asked sent left = (asked ≡ []) × (sent ≡ []) × (left ≡ [])
Turns (search ∷ searches) asked sent left =
    (first : List PortCall) × (later : List PortCall) × (head : List ℕ) × (tail : List ℕ)
    × (stays : Bool) × (rest : List SessionSearch)
    × SearchTurn search first head stays × Turns searches later tail rest
    × (asked ≡ first ++ later) × (sent ≡ head ++ tail)
    × (left ≡ left_open search stays ++ rest)

-- all searches of a session have a turn
pub record HandsOutAll
    (old : SessionState) (asked : List PortCall) (sent : List ℕ) (new : SessionState) : Type 0 where
  pub turns : Turns old.searches asked sent new.searches
  pub bound_is : new.bound ≡ old.bound

-- one turn at a port: what was asked and sent; the session keeps what it had
pub record HasTurn
    (search : SessionSearch) (old : Point) (stays : Bool) (new : Point) : Type 0 where
  pub asked : List PortCall
  pub octets : List ℕ
  pub turn : SearchTurn search asked octets stays
  pub exchanged : Exchanged old.port asked new.port
  pub sent_is : new.sent ≡ old.sent ++ octets
  pub same : new.session ≡ old.session

-- the turn was had, or memory ran out in the midst of it
abbrev pub TurnEnds : {E : Type 0} → SessionSearch → Point → Result Bool E → Point → Type 0
TurnEnds search old (Ok stays) new = HasTurn search old stays new
TurnEnds search old (Err fault) new = Begun old new

-- ---- the messages of one search, which the port gives together

-- each is of the grammar of messages
abbrev pub AreOfGrammar : List Message → Type 0
AreOfGrammar [] = Unit {0}
AreOfGrammar (message ∷ messages) =
    IsOfGrammar (operation_of message.op) × AreOfGrammar messages

abbrev pub EndsInGrammar : HandOutStop → Type 0
EndsInGrammar stops.Enough = Unit {0}
EndsInGrammar (stops.Ended code message) = IsOfGrammar (operation_of message.op)
EndsInGrammar stops.Nothing = Unit {0}
EndsInGrammar stops.NoSuchSearch = Unit {0}
EndsInGrammar stops.NoMemory = Unit {0}

-- what comes after the messages; nothing where memory ran out
abbrev pub stop_of : HandOutStop → Option Stop
stop_of stops.Enough = Some Enough
stop_of (stops.Ended code message) = Some (Ends code message)
stop_of stops.Nothing = Some Waits
stop_of stops.NoSuchSearch = Some Unknown
stop_of stops.NoMemory = None

-- the search stays open or not by what comes after its messages, which was sent; where memory ran
-- out, a part of it was
abbrev pub SendsLast : {E : Type 0} → HandOutStop → Point → Result Bool E → Point → Type 0
SendsLast stop old (Ok stays) new =
    (last : Stop) × (stop_of stop ≡ Some last) × (stays ≡ stays_open last)
    × (new ≡ record old { sent = old.sent ++ stop_sent last })
SendsLast stop old (Err fault) new =
    (part : List ℕ) × (new ≡ record old { sent = old.sent ++ part })
