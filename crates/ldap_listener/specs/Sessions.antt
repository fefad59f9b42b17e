-- What connections did.
use Rattle.std.specs.Prelude.{◌≡◌, ◌≢◌, ◌⊎◌, ℕ, ◌<◌, ◌==◌, if◌then◌else◌, List, [], ◌∷◌, ◌++◌, Option, Some}
use Rattle.std.specs.List.{flat_map}
use Rattle.std.specs.Io.KnownBytes.{IsAtEnd}
use Rattle.sync_io.specs.Links.{HasNoFaults, IsUnused}
use Rattle.sync_provider.specs.Ports.{PortState}
use Rattle.ldap_session.specs.declared.access.Access.{Access}
use Rattle.ldap_session.specs.declared.ended.Ended.{Ended}
use Rattle.ldap_session.specs.declared.ended.Ended.TheVariants.{EndOfInput, ReadFault, WriteFault}
use Rattle.ldap_session.specs.declared.event.LinkEvent.{LinkEvent}
use Rattle.ldap_server.specs.Serving.{IsEndOf, IsPrompt, brought_by}
use Rattle.ldap_server.specs.Session.{Connected, HandlesEvents, fresh}
use Rattle.ldap_server.specs.Table.{DropsAll}

-- A connection that was served: what its port knew before; what came, what its session sent for
-- that and what of it was written; how it ended; and what its port knew after.
pub record ServedSession : Type 0 where
  pub before : PortState
  pub events : List LinkEvent
  pub sent : List ℕ
  pub written : List ℕ
  pub ended : Ended
  pub after : PortState

-- It was a session of LDAP from its beginning on, and the searches that it left open were dropped.
-- All that it sent was written, or the front of it where a write failed; and nothing came to it
-- after what ended it.
pub record IsSession (access : Access) (s : ServedSession) : Type 0 where
  pub left : Connected
  pub runs : HandlesEvents (fresh s.before access) s.events s.sent left
  pub drops : DropsAll left.session.searches left.port s.after
  pub unwritten : List ℕ
  pub sent_is : s.sent ≡ s.written ++ unwritten
  pub whole : s.ended ≢ WriteFault → unwritten ≡ []
  pub end : IsEndOf s.ended left
  pub prompt : (s.events ≡ []) ⊎ IsPrompt (fresh s.before access) s.events s.sent left

-- ---- links

-- what a link reports: the bytes that are left, that were read and that are held, and how many
-- reads and writes failed
pub record LinkView (L : Type 0) : Type 0 where
  pub left : L → Option (List ℕ)
  pub read : L → Option (List ℕ)
  pub held : L → Option (List ℕ)
  pub read_faults : L → ℕ
  pub write_faults : L → ℕ

abbrev pub seen_by : {L : Type 0} → (left read held : L → Option (List ℕ))
    → (read_faults write_faults : L → ℕ) → LinkView L
seen_by left read held read_faults write_faults = record {
  left = left;
  read = read;
  held = held;
  read_faults = read_faults;
  write_faults = write_faults;
}

-- nothing was read from the link or written to it, and no call of it has failed
pub record IsFresh {L : Type 0} (v : LinkView L) (link : L) : Type 0 where
  pub unused : IsUnused (v.read link) (v.held link)
  pub sound : HasNoFaults (v.read_faults link) (v.write_faults link)

-- What a link reports of the session over it: what came is what was read, what was written is what
-- is held, and the session ended as it says only where the link did so.
pub record Reported {L : Type 0} (v : LinkView L) (link : L) (s : ServedSession) : Type 0 where
  pub read_all : v.read link ≡ Some (flat_map brought_by s.events)
  pub held_all : v.held link ≡ Some s.written
  pub at_end : s.ended ≡ EndOfInput → IsAtEnd (v.left link)
  pub read_failed : s.ended ≡ ReadFault → 0 < v.read_faults link
  pub write_failed : s.ended ≡ WriteFault → 0 < v.write_faults link

-- A link was given to a session of this port, and came back with the port. Where it was fresh, it
-- reports the session.
pub record IsServing {L : Type 0}
    (v : LinkView L) (access : Access) (before : PortState) (link : L)
    (after : PortState) (back : L) (s : ServedSession) : Type 0 where
  pub before_is : s.before ≡ before
  pub after_is : s.after ≡ after
  pub session : IsSession access s
  pub reported : IsFresh v link → Reported v back s

abbrev pub HasServed : {L : Type 0} → LinkView L → Access → PortState → L → PortState → L → Type 0
HasServed v access before link after back =
    (s : ServedSession) × IsServing v access before link after back s

-- ---- sessions of one port

-- one after the other: each began with what its port knew after the one before
abbrev pub Chain : PortState → List ServedSession → PortState → Type 0
Chain first [] last = last ≡ first
Chain first (s ∷ sessions) last = (s.before ≡ first) × Chain s.after sessions last

-- those of the port with this number, in their order
abbrev pub sessions_of : ℕ → List (ℕ × ServedSession) → List ServedSession
sessions_of number sessions = flat_map (λ s. if s.0 == number then s.1 ∷ [] else []) sessions
