-- A session over a link.
use Rattle.std.specs.Prelude.{◌≡◌, ◌≢◌, ◌⊎◌, ℕ, List, [], ◌∷◌, ◌++◌, Option, Some, None}
use Rattle.std.specs.List.{flat_map}
use Rattle.std.specs.Io.KnownBytes.{Appends, Consumes, IsAtEnd, Keeps}
use Rattle.sync_io.specs.Sink.{AppendsPrefix}
use Rattle.ldap_session.specs.declared.ended.Ended.{Ended}
use Rattle.ldap_session.specs.declared.ended.Ended.TheVariants.{EndOfInput, ReadFault, WriteFault}
use Rattle.ldap_session.specs.declared.event.LinkEvent.{LinkEvent}
use Rattle.ldap_session.specs.declared.event.LinkEvent.TheVariants.{Piece, Quiet, End}
use Rattle.ldap_server.specs.Session.{Connected, HandlesEvent, HandlesEvents}
use Rattle.ldap_server.specs.declared.connection.Out.{Out}

-- the bytes that an event brings
abbrev pub brought_by : LinkEvent → List ℕ
brought_by (Piece bytes now) = bytes
brought_by Quiet = []
brought_by End = []

-- what is seen of a link: the bytes that are left, those that were read, and those that are held
pub record LinkBytes : Type 0 where
  pub left : Option (List ℕ)
  pub read : Option (List ℕ)
  pub held : Option (List ℕ)

-- where the event is the end of the input, no byte is left
abbrev pub IsEndAt : LinkEvent → Option (List ℕ) → Type 0
IsEndAt (Piece bytes now) left = Unit {0}
IsEndAt Quiet left = Unit {0}
IsEndAt End left = IsAtEnd left

-- one read gave an event, whose bytes were the next of the link, or it failed
abbrev pub Takes : Connected → (left read left' read' : Option (List ℕ)) → Option Out → Connected
    → Type 0
Takes old left read left' read' None new = (new ≡ old) × Keeps left left' × Keeps read read'
Takes old left read left' read' (Some out) new =
    (event : LinkEvent) × HandlesEvent old event out.bytes out.ended new
    × Consumes left left' (brought_by event) × Appends read read' (brought_by event)
    × IsEndAt event left'

-- how the session ended is how the call does, where no call of the link failed
abbrev pub IsEndOf : Ended → Connected → Type 0
IsEndOf ended new = ended ≢ ReadFault → ended ≢ WriteFault → new.ended ≡ Some ended

-- the last of these events came to a session that had not ended
pub record EndsLive
    (old : Connected) (events : List LinkEvent) (sent : List ℕ) (new : Connected) : Type 0 where
  pub earlier : List LinkEvent
  pub last : LinkEvent
  pub events_are : events ≡ earlier ++ last ∷ []
  pub between : Connected
  pub before : List ℕ
  pub after : List ℕ
  pub sent_is : sent ≡ before ++ after
  pub runs : HandlesEvents old earlier before between
  pub live : between.ended ≡ None
  pub handles : HandlesEvent between last after new.ended new

-- no event comes after the one that ends a session
abbrev pub IsPrompt : Connected → List LinkEvent → List ℕ → Connected → Type 0
IsPrompt old events sent new = (new.ended ≡ None) ⊎ EndsLive old events sent new

-- Some events came: their bytes are what was read, and what was written is what the session sent
-- for them, or a prefix of it where a write failed. The input ended only where no byte was left.
pub record Serves
    (old : Connected) (before : LinkBytes) (ended : Ended) (new : Connected) (after : LinkBytes)
    : Type 0 where
  pub events : List LinkEvent
  pub sent : List ℕ
  pub runs : HandlesEvents old events sent new
  pub taken : Consumes before.left after.left (flat_map brought_by events)
  pub read : Appends before.read after.read (flat_map brought_by events)
  pub prefix : AppendsPrefix before.held after.held sent
  pub whole : ended ≢ WriteFault → Appends before.held after.held sent
  pub end : IsEndOf ended new
  pub at_end : old.ended ≡ None → ended ≡ EndOfInput → IsAtEnd after.left
  pub prompt : old.ended ≡ None → IsPrompt old events sent new
