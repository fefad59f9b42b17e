-- What stands first in some bytes is answered.
use Rattle.std.proofs.Common.{◌≡◌, ℕ, List, [], Option, Some, None, Result, Ok, Err, refl, sym, subst}
use Rattle.std.specs.Prelude.{IfOk}
use Rattle.ldap_messages.specs.Frame.{message, read_of}
use Rattle.ldap_messages.specs.Whole.{MessageValue}
use Rattle.ldap_session.proofs.Streams.{frame_some, frame_within}
use Rattle.ldap_session.specs.Acts.{Answers, end_of}
use Rattle.ldap_session.specs.Incoming.{Arrived, Wrong}
use Rattle.ldap_session.specs.declared.access.Access.{Access}
use Rattle.ldap_session.specs.declared.ended.Ended.{Ended}
use Rattle.ldap_session.specs.declared.ended.Ended.TheVariants.{ProtocolFault}
use Rattle.ldap_server.specs.Encoding.{notice}
use Rattle.ldap_server.specs.Following.{FollowsOrBegins, Follows, first_of, next_after}
use Rattle.ldap_server.specs.Points.{Point, PerformedOrBegun, Sends}
use Rattle.ldap_server.specs.Session.{Does, DoesAct}
use Rattle.ldap_server.specs.declared.first_frame.FirstFrame.{FirstFrame}
use Rattle.ldap_server.specs.declared.first_frame.FirstFrame.TheVariants as next
use Rattle.ldap_server.proofs.Performing.{begun_part}
use Rattle.ldap_server.proofs.Steps.{end_of_wrong, step_wrong}

-- a message that was answered, and ends the session or not
follows_end : (access : Access) (now : ℕ) (bytes : List ℕ) (whole : MessageValue) (count : ℕ) (end : Option Ended) (old new : Point)
    → read_of bytes ≡ message whole count → end_of (Answers (Arrived whole) now) ≡ end → DoesAct access old (Answers (Arrived whole) now) new
    → Follows access now bytes old (next_after count end) new
follows_end access now bytes whole count None old new read is s = (whole, read, frame_some bytes whole count read, frame_within bytes whole count read, s, is)
follows_end access now bytes whole count (Some ended) old new read is s = (Arrived whole, rw read refl, s, is)

-- a message that came whole: a session that did what it asks for follows the bytes, or has begun to
pub follows_message : {E : Type 0} (access : Access) (now : ℕ) (bytes : List ℕ) (whole : MessageValue) (count : ℕ) (old new : Point) (r : Result FirstFrame E)
    → read_of bytes ≡ message whole count → IfOk r (λ n. n ≡ next_after count (end_of (Answers (Arrived whole) now)))
    → PerformedOrBegun (Does access (Answers (Arrived whole) now)) old r new → FollowsOrBegins access now bytes old r new
follows_message access now bytes whole count old new (Ok n) read is answer =
    subst (λ k. Follows access now bytes old k new) (sym is)
    (follows_end access now bytes whole count (end_of (Answers (Arrived whole) now)) old new read refl answer)
follows_message access now bytes whole count old new (Err fault) read is answer = answer

-- bytes that are refused
pub follows_wrong : {E : Type 0} (access : Access) (now : ℕ) (bytes : List ℕ) (place : ℕ) (old new : Point) (r : Result FirstFrame E)
    → first_of (read_of bytes) ≡ Some (Wrong place) → IfOk r (λ n. n ≡ next.Over (ProtocolFault place)) → Sends notice old r new
    → FollowsOrBegins access now bytes old r new
follows_wrong access now bytes place old new (Ok n) first is sends =
    subst (λ k. Follows access now bytes old k new) (sym is) (Wrong place, first, step_wrong access place now old new sends, end_of_wrong place now)
follows_wrong access now bytes place old new (Err fault) first is sends = begun_part [] old old new refl refl sends
