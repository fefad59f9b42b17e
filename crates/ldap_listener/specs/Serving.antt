-- A directory whose connections were served.
use Rattle.std.specs.Prelude.{◌≡◌, ℕ, suc, ◌<◌, ◌≤◌, List, [], ◌∷◌, length, Option, IsSome, Result, Ok, Err}
use Rattle.std.specs.List.{AllZip}
use Rattle.atomic_table.specs.Seated.{TableId}
use Rattle.sync_io.specs.Net.{Served}
use Rattle.sync_io.specs.declared.dial.NetFault.{NetFault}
use Rattle.sync_provider.specs.Journal.{JournalledProvider, journal_in}
use Rattle.sync_provider.specs.Ports.{PortState, IsLater}
use Rattle.turn_cell.specs.Journals.{Every, HasGrown, IsNumber}
use Rattle.shared_directory.specs.Desks.{NumberedState, port_in, port_journal}
use Rattle.shared_directory.specs.Passes.{directory_id, first_port, made_with, port_of, ports_of}
use Rattle.shared_directory.specs.declared.directory.SharedDirectory.{SharedDirectory}
use Rattle.ldap_session.specs.declared.access.Access.{Access}
use Rattle.ldap_listener.specs.Seats.{AcceptsLinks, AllFree, AllSeated, IsReported, IsServed, ConnectionSeat, busy, free, vacant}
use Rattle.ldap_listener.specs.Sessions.{Chain, LinkView, ServedSession, sessions_of}

-- ---- the seats of a directory before the first connection and after the last one

-- free seats whose ports know what a directory begins with, with the numbers from `number` on
abbrev pub AreFirst : {L : Type 0} → (ports : ℕ) → JournalledProvider → (number : ℕ)
    → List (ConnectionSeat L) → Type 0
AreFirst ports v number [] = Unit {0}
AreFirst ports v number (free cell view ∷ seats) =
    (port_of view ≡ first_port number ports v) × AreFirst ports v (suc number) seats
AreFirst ports v number (busy cell view access link ∷ seats) = ⊥
AreFirst ports v number (vacant ∷ seats) = ⊥

-- A directory goes on from this provider, and each of its ports has a free seat.
pub record AreOpened {L : Type 0} (v : JournalledProvider) (ports : ℕ)
    (directory : SharedDirectory) (seats : List (ConnectionSeat L))
    : Type 0 where
  pub count : length seats ≡ ports
  pub ports_are : ports_of directory ≡ ports
  pub seated : AllSeated (directory_id directory) seats
  pub first : AreFirst ports v 1 seats
  pub journal : port_journal (made_with directory).now ≡ journal_in v

-- free seats to whose ports entries of others alone came in since their last call
abbrev pub HaveLeft : {L : Type 0} → NumberedState → List (ConnectionSeat L) → Type 0
HaveLeft last [] = Unit {0}
HaveLeft last (free cell view ∷ seats) =
    IsLater (port_of view) (port_in view.number view.seats last) × HaveLeft last seats
HaveLeft last (busy cell view access link ∷ seats) = ⊥
HaveLeft last (vacant ∷ seats) = ⊥

-- A directory was closed, and its provider is as the ports of these seats left it. Each entry since
-- it was opened has the number of a port.
pub record AreClosed {L : Type 0}
    (directory : SharedDirectory) (seats : List (ConnectionSeat L))
    (v : JournalledProvider) : Type 0 where
  pub last : NumberedState
  pub provider : last.provider ≡ v
  pub left : HaveLeft last seats
  pub numbers :
      HasGrown (ports_of directory) (port_journal (made_with directory).now) (port_journal last)

-- ---- all connections

-- n connections were to be served, or any number where n is 0; none failed to come
abbrev pub IsAll : {E : Type 0} → Result Unit E → (connections k : ℕ) → Type 0
IsAll (Ok done) connections k = (0 < connections) × (k ≡ connections)
IsAll (Err fault) connections k = Unit {0}

-- The sessions of the port with this number began with what it knew when it was made, and since the
-- last of them entries of other ports came in.
pub record PortServed
    (number ports : ℕ) (old : JournalledProvider) (sessions : List ServedSession)
    (last : NumberedState) : Type 0 where
  pub left : PortState
  pub chain : Chain (first_port number ports old) sessions left
  pub later : IsLater left (port_in number ports last)

-- n links were accepted, and each was released after its session, which has the number of the port
-- that it was at, one of those of the seats. Each entry of the journal since that of the provider
-- has the number of one of all ports, and the sessions of each port had their replies from it, at
-- places in order.
pub record SeatsServed {L C M : Type 0}
    (v : LinkView L) (access : Access) (seats ports : ℕ) (old : JournalledProvider)
    (last : NumberedState) (n : ℕ) (before after : Option (Served L C M)) : Type 0 where
  pub links : List L
  pub sessions : List (ℕ × ServedSession)
  pub reported : IsReported before n after links
  pub served : AllZip (IsServed v access (IsSome before)) links sessions
  pub numbered : Every (λ (s : ℕ × ServedSession). IsNumber seats s.0) sessions
  pub count : length links ≡ n
  pub journal : HasGrown ports (journal_in old) (port_journal last)
  pub ports_served : (number : ℕ) → 1 ≤ number → number ≤ seats
      → PortServed number ports old (sessions_of number sessions) last

-- the same where each port has a seat, and the provider that is given back is the last one
pub record ServesAll {L C M : Type 0}
    (v : LinkView L) (access : Access) (ports : ℕ) (old new : JournalledProvider)
    (n : ℕ) (before after : Option (Served L C M)) : Type 0 where
  pub last : NumberedState
  pub provider : last.provider ≡ new
  pub served : SeatsServed v access ports ports old last n before after

-- ---- the links of a door

-- Links were served as they came, as many as were to be, or until the net gave no further one. All
-- are accounted for, all seats are free, and the net counted a fault exactly where it failed.
pub record ServesLinks {L C M : Type 0}
    (v : LinkView L) (access : Access) (cell : TableId) (connections : ℕ)
    (answer : Result Unit NetFault)
    (old : Option (Served L C M)) (seats : List (ConnectionSeat L)) (before : ℕ)
    (new : Option (Served L C M)) (seats' : List (ConnectionSeat L)) (after : ℕ) : Type 0 where
  pub count : length seats' ≡ length seats
  pub free : AllFree seats'
  pub accepts : AcceptsLinks v access cell answer (λ k. IsAll answer connections k)
      old seats before new seats' after
