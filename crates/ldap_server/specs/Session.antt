-- A session: its acts one after the other, each done as the table says, with the replies of its
-- port.
use Rattle.std.specs.Prelude.{◌≡◌, ◌≢◌, ℕ, List, [], ◌∷◌, ◌++◌, IsSome, Option, Some, None, Result, Ok, Err, false}
use Rattle.sync_provider.specs.Ports.{PortState}
use Rattle.ldap_session.specs.Acts.{Act, Answers, HandsOut, Leaves, acts_at, acts_from, kept_after, until_end, end_among}
use Rattle.ldap_session.specs.Incoming.{Arrived, Wrong}
use Rattle.ldap_session.specs.Requests.{request_of}
use Rattle.ldap_session.specs.declared.access.Access.{Access}
use Rattle.ldap_session.specs.declared.ended.Ended.{Ended}
use Rattle.ldap_session.specs.declared.ended.Ended.TheVariants.{NoMemory}
use Rattle.ldap_session.specs.declared.event.LinkEvent.{LinkEvent}
use Rattle.ldap_server.specs.Encoding.{notice}
use Rattle.ldap_server.specs.PortCalls.{PortCall, Exchanged}
use Rattle.ldap_server.specs.HandOuts.{HandsOutAll}
use Rattle.ldap_server.specs.Points.{Point, IsPerformed}
use Rattle.ldap_server.specs.SessionState.{SessionState}
use Rattle.ldap_server.specs.Table.{SendsOnly, Drops, Answer}

-- the open searches are dropped
pub record DropsSearches
    (old : SessionState) (asked : List PortCall) (sent : List ℕ) (new : SessionState) : Type 0 where
  pub drops : Drops old.searches asked
  pub sent_is : sent ≡ []
  pub new_is : new ≡ record { bound = old.bound; searches = [] }

-- what an act asks of the port and sends, and what the session keeps after it
unfoldable pub Does : Access → Act → SessionState → List PortCall → List ℕ → SessionState → Type 0
Does access (Answers (Arrived whole) now) old asked sent new =
    Answer access whole.0 (request_of whole.1.0) whole.1.1 now old asked sent new
Does access (Answers (Wrong place) now) old asked sent new = SendsOnly notice old asked sent new
Does access HandsOut old asked sent new = HandsOutAll old asked sent new
Does access Leaves old asked sent new = DropsSearches old asked sent new

-- one act leads from one point to another
abbrev pub DoesAct : Access → Point → Act → Point → Type 0
DoesAct access old act new = IsPerformed (Does access act) old new

-- these acts, one after the other
abbrev pub DoesActs : Access → Point → List Act → Point → Type 0
DoesActs access old [] new = new ≡ old
DoesActs access old (act ∷ acts) new =
    (between : Point) × DoesAct access old act between × DoesActs access between acts new

-- Memory ran out: the first of these acts were done. Of the next one nothing was sent; the port
-- replied to what was asked for it.
pub record RunsOutOfMemory
    (access : Access) (old : Point) (acts : List Act) (new : Point) : Type 0 where
  pub done : List Act
  pub later : List Act
  pub acts_are : acts ≡ done ++ later
  pub between : Point
  pub does : DoesActs access old done between
  pub asked : List PortCall
  pub exchanged : Exchanged between.port asked new.port
  pub sent_is : new.sent ≡ between.sent

-- ---- one event

-- what one event does to a session that has not ended
pub record ActsOn
    (access : Access) (kept : List ℕ) (event : LinkEvent) (old : Point) (ended : Option Ended)
    (new : Point) (left : List ℕ) : Type 0 where
  pub does : DoesActs access old (until_end (acts_at kept event)) new
  pub end : ended ≡ end_among (acts_at kept event)
  pub rest : ended ≡ None → left ≡ kept_after kept event

-- the same by what it answered, where running out of memory ends the session too
abbrev pub ActsOnOrRunsOut : {E : Type 0} → Access → List ℕ → LinkEvent → Point
    → Result (Option Ended) E → Point → List ℕ → Type 0
ActsOnOrRunsOut access kept event old (Ok ended) new left =
    ActsOn access kept event old ended new left
ActsOnOrRunsOut access kept event old (Err fault) new left =
    RunsOutOfMemory access old (until_end (acts_at kept event)) new

-- how a session ended, where running out of memory ends it too
abbrev pub ended_by : {E : Type 0} → Result (Option Ended) E → Option Ended
ended_by (Ok ended) = ended
ended_by (Err fault) = Some NoMemory

-- ---- connections

-- what a connection is: its port, its access, what it keeps of searches and bytes, and how it ended
pub record Connected : Type 0 where
  pub port : PortState
  pub access : Access
  pub session : SessionState
  pub kept : List ℕ
  pub ended : Option Ended

-- one that has just begun
abbrev pub fresh : PortState → Access → Connected
fresh port access = record {
  port = port;
  access = access;
  session = record { bound = false; searches = [] };
  kept = [];
  ended = None;
}

-- where it is, when it has sent this
abbrev pub point_of : Connected → List ℕ → Point
point_of connected sent = record {
  port = connected.port;
  session = connected.session;
  sent = sent;
}

-- one event comes to a connection: what is sent, and how the session ended. After an end nothing
-- more happens
pub record HandlesEvent
    (old : Connected) (event : LinkEvent) (bytes : List ℕ) (ended : Option Ended) (new : Connected)
    : Type 0 where
  pub access_is : new.access ≡ old.access
  pub ended_is : ended ≡ new.ended
  pub over : IsSome old.ended → (new ≡ old) × (bytes ≡ [])
  pub live : old.ended ≡ None → new.ended ≢ Some NoMemory
      → ActsOn old.access old.kept event (point_of old []) new.ended (point_of new bytes) new.kept
  pub halts : old.ended ≡ None → new.ended ≡ Some NoMemory
      → RunsOutOfMemory old.access (point_of old []) (until_end (acts_at old.kept event))
      (point_of new bytes)

-- some events come, one after the other
pub record HandlesEvents
    (old : Connected) (events : List LinkEvent) (bytes : List ℕ) (new : Connected) : Type 0 where
  pub access_is : new.access ≡ old.access
  pub live : old.ended ≡ None → new.ended ≢ Some NoMemory
      → DoesActs old.access (point_of old []) (until_end (acts_from old.kept events))
      (point_of new bytes)
  pub end : old.ended ≡ None → new.ended ≢ Some NoMemory
      → new.ended ≡ end_among (acts_from old.kept events)
  pub halts : old.ended ≡ None → new.ended ≡ Some NoMemory
      → RunsOutOfMemory old.access (point_of old []) (until_end (acts_from old.kept events))
      (point_of new bytes)
