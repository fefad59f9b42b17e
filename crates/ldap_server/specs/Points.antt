-- Where a session is, and what leads from one point to another.
use Rattle.std.specs.Prelude.{◌≡◌, ℕ, List, ◌++◌, Result, Ok, Err}
use Rattle.sync_provider.specs.Ports.{PortState}
use Rattle.ldap_server.specs.PortCalls.{PortCall, Exchanged}
use Rattle.ldap_server.specs.SessionState.{SessionState}

-- its port, what it keeps, and all that it sent
pub record Point : Type 0 where
  pub port : PortState
  pub session : SessionState
  pub sent : List ℕ

-- Something was done: what it asks of the port was asked and replied to, and what it sends was
-- sent.
-- `Act` says what that is, from what the session keeps before it to what it keeps after it.
pub record IsPerformed
    (Act : SessionState → List PortCall → List ℕ → SessionState → Type 0) (old new : Point)
    : Type 0 where
  pub asked : List PortCall
  pub octets : List ℕ
  pub act : Act old.session asked octets new.session
  pub exchanged : Exchanged old.port asked new.port
  pub sent_is : new.sent ≡ old.sent ++ octets

-- something was begun: the port replied to what was asked so far, and something was sent
pub record Begun (old new : Point) : Type 0 where
  pub asked : List PortCall
  pub exchanged : Exchanged old.port asked new.port
  pub octets : List ℕ
  pub sent_is : new.sent ≡ old.sent ++ octets

-- it was done, or memory ran out in the midst of it
abbrev pub PerformedOrBegun : {T E : Type 0}
    → (SessionState → List PortCall → List ℕ → SessionState → Type 0)
    → Point → Result T E → Point → Type 0
PerformedOrBegun Act old (Ok done) new = IsPerformed Act old new
PerformedOrBegun Act old (Err fault) new = Begun old new

-- these octets were sent and nothing else was done, or a part of them where memory ran out
abbrev pub Sends : {T E : Type 0} → List ℕ → Point → Result T E → Point → Type 0
Sends octets old (Ok done) new = new ≡ record old { sent = old.sent ++ octets }
Sends octets old (Err fault) new =
    (part : List ℕ) × (new ≡ record old { sent = old.sent ++ part })
