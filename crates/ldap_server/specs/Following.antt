-- What stands first in some bytes is answered, and then what follows it.
use Rattle.std.specs.Prelude.{◌≡◌, ℕ, ◌<◌, ◌≤◌, List, length, drop, Option, Some, None, Result, Ok, Err}
use Rattle.ldap_messages.specs.Frame.{Read, partial, refused, long, message, read_of}
use Rattle.ldap_messages.specs.Whole.{MessageValue}
use Rattle.ldap_session.specs.Acts.{Answers, answers_of, end_of, until_end, end_among}
use Rattle.ldap_session.specs.Incoming.{Incoming, Arrived, Wrong, incoming_in, rest_of}
use Rattle.ldap_session.specs.declared.access.Access.{Access}
use Rattle.ldap_session.specs.declared.ended.Ended.{Ended}
use Rattle.ldap_server.specs.PortCalls.{PortCall, Exchanged}
use Rattle.ldap_server.specs.Points.{Point, Begun}
use Rattle.ldap_server.specs.Session.{DoesAct, DoesActs, RunsOutOfMemory}
use Rattle.ldap_server.specs.declared.first_frame.FirstFrame.{FirstFrame}
use Rattle.ldap_server.specs.declared.first_frame.FirstFrame.TheVariants as next

-- the first of what is read in some bytes
abbrev pub first_of : Read → Option Incoming
first_of partial = None
first_of (refused place) = Some (Wrong place)
first_of long = Some (Wrong 0)
first_of (message whole count) = Some (Arrived whole)

-- what was answered of a message of n bytes, which ends the session or not
abbrev pub next_after : ℕ → Option Ended → FirstFrame
next_after count None = next.Message count
next_after count (Some ended) = next.Over ended

abbrev pub Follows : Access → (now : ℕ) → List ℕ → Point → FirstFrame → Point → Type 0
Follows access now bytes old next.Rest new = (read_of bytes ≡ partial) × (new ≡ old)
Follows access now bytes old (next.Message count) new =
    (whole : MessageValue) × (read_of bytes ≡ message whole count) × (0 < count)
    × (count ≤ length bytes) × DoesAct access old (Answers (Arrived whole) now) new
    × (end_of (Answers (Arrived whole) now) ≡ None)
Follows access now bytes old (next.Over ended) new =
    (incoming : Incoming) × (first_of (read_of bytes) ≡ Some incoming)
    × DoesAct access old (Answers incoming now) new × (end_of (Answers incoming now) ≡ Some ended)

abbrev pub FollowsOrBegins : {E : Type 0} → Access → (now : ℕ) → List ℕ
    → Point → Result FirstFrame E → Point → Type 0
FollowsOrBegins access now bytes old (Ok next) new = Follows access now bytes old next new
FollowsOrBegins access now bytes old (Err fault) new = Begun old new

-- nothing was sent: the port replied to what was asked until memory ran out
pub record Stopped (old new : Point) : Type 0 where
  pub asked : List PortCall
  pub exchanged : Exchanged old.port asked new.port
  pub sent_is : new.sent ≡ old.sent

abbrev pub FollowsOn : {E : Type 0} → Access → (now : ℕ) → List ℕ
    → Point → Result FirstFrame E → Point → Type 0
FollowsOn access now bytes old (Ok next) new = Follows access now bytes old next new
FollowsOn access now bytes old (Err fault) new = Stopped old new

-- all of the bytes are answered, but the last ones, which are no whole message
pub record IsAnswered
    (access : Access) (now : ℕ) (bytes : List ℕ) (place : ℕ) (ended : Option Ended)
    (old new : Point) : Type 0 where
  pub does : DoesActs access old (until_end (answers_of now (incoming_in bytes))) new
  pub end : ended ≡ end_among (answers_of now (incoming_in bytes))
  pub within : place ≤ length bytes
  pub rest : ended ≡ None → drop place bytes ≡ rest_of bytes

abbrev pub AnsweredOn : {E : Type 0} → Access → (now : ℕ) → List ℕ
    → Point → Result (Option Ended × ℕ) E → Point → Type 0
AnsweredOn access now bytes old (Ok done) new =
    IsAnswered access now bytes done.1 done.0 old new
AnsweredOn access now bytes old (Err fault) new =
    RunsOutOfMemory access old (until_end (answers_of now (incoming_in bytes))) new
