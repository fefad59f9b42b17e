-- Where the passes are, and what a net reports meanwhile.
use Rattle.std.specs.Prelude.{◌≡◌, ℕ, suc, ◌+◌, ◌≤◌, Bool, true, false, List, [], ◌∷◌, ◌++◌, length, Option, Some, None, IfSome, IsErrOf, IsSome, Result, slice_index_or}
use Rattle.std.specs.List.{AllZip}
use Rattle.atomic_table.specs.Seated.{TableId}
use Rattle.turn_cell.specs.Journals.{Every, IsNumber}
use Rattle.sync_io.specs.Faults.{CountHasRisen}
use Rattle.sync_io.specs.Net.{Served}
use Rattle.sync_io.specs.declared.dial.NetFault.{NetFault}
use Rattle.sync_io.specs.declared.dial.NetFault.TheVariants.{Failed}
use Rattle.sync_provider.specs.Ports.{PortState}
use Rattle.shared_directory.specs.Passes.{DirectoryView, IsUpToDate, port_of}
use Rattle.ldap_session.specs.declared.access.Access.{Access}
use Rattle.ldap_listener.specs.Sessions.{Chain, IsFresh, IsSession, LinkView, ServedSession, Reported, sessions_of}

-- a pass that is free, or as it was given to a connection with its link, and who may write there
pub data ConnectionSeat (L : Type 0) : Type 0 where
  free : TableId → DirectoryView → ConnectionSeat L
  busy : TableId → DirectoryView → Access → L → ConnectionSeat L
  vacant : ConnectionSeat L

module _ {L : Type 0} where
  -- a pass of this cell
  abbrev pub IsSeated : TableId → ConnectionSeat L → Type 0
  IsSeated cell (free c view) = (c ≡ cell) × IsUpToDate view
  IsSeated cell (busy c view access link) = (c ≡ cell) × IsUpToDate view
  IsSeated cell vacant = ⊥

  abbrev pub AllSeated : TableId → List (ConnectionSeat L) → Type 0
  AllSeated cell [] = Unit {0}
  AllSeated cell (seat ∷ seats) = IsSeated cell seat × AllSeated cell seats

  abbrev pub is_free : ConnectionSeat L → Bool
  is_free (free c view) = true
  is_free (busy c view access link) = false
  is_free vacant = false

  abbrev pub IsFree : ConnectionSeat L → Type 0
  IsFree seat = is_free seat ≡ true

  abbrev pub AllFree : List (ConnectionSeat L) → Type 0
  AllFree [] = Unit {0}
  AllFree (seat ∷ seats) = IsFree seat × AllFree seats

  -- the pass of this place is free
  abbrev pub IsFreeAt : List (ConnectionSeat L) → ℕ → Type 0
  IsFreeAt seats place = IsFree (slice_index_or seats place vacant)

  abbrev pub counts : ConnectionSeat L → ℕ
  counts (free c view) = 0
  counts (busy c view access link) = 1
  counts vacant = 0

  -- how many connections are served
  abbrev pub busy_count : List (ConnectionSeat L) → ℕ
  busy_count [] = 0
  busy_count (seat ∷ seats) = counts seat + busy_count seats

-- as many links can be released as connections are served
abbrev pub HasRoom : {L C M : Type 0} → Option (Served L C M) → List (ConnectionSeat L) → Type 0
HasRoom served seats = IfSome served (λ s. length s.released + busy_count seats ≤ s.accepted)

-- what holds of a net and of the seats whenever a link is accepted or released: each seat has a
-- pass of this cell, and the links of all connections that are served can be released
pub record AreInOrder {L C M : Type 0}
    (cell : TableId) (net : Option (Served L C M)) (seats : List (ConnectionSeat L)) : Type 0 where
  pub seated : AllSeated cell seats
  pub room : HasRoom net seats

-- ---- what became of the links that were accepted

-- it was not asked for a caller, and none came back
pub record HasSameCallers {L C M : Type 0} (before now : Served L C M) : Type 0 where
  pub callers : now.callers ≡ before.callers
  pub retired : now.retired ≡ before.retired
  pub gone : now.gone ≡ before.gone
  pub to_come : now.callers_to_come ≡ before.callers_to_come

-- since it reported `before`, a net accepted n links, and these were released
abbrev pub IsReported : {L C M : Type 0} → Option (Served L C M) → ℕ → Option (Served L C M)
    → List L
    → Type 0
IsReported None n now links = now ≡ None
IsReported (Some before) n None links = ⊥
IsReported (Some before) n (Some now) links =
    (now.asked ≡ before.asked) × (now.accepted ≡ before.accepted + n)
    × (now.released ≡ before.released ++ links) × HasSameCallers before now

-- a released link had a session, which it reports where the net reports its links
abbrev pub IsServed : {L : Type 0} → LinkView L → Access → Type 0 → L → ℕ × ServedSession → Type 0
IsServed v access Reports link s = IsSession access s.1 × (Reports → Reported v link s.1)

-- the port of a seat knows what it knows after its sessions
abbrev pub IsCounted : {L : Type 0} → LinkView L → Access → Type 0 → PortState
    → List ServedSession → ConnectionSeat L → Type 0
IsCounted v access Reports first sessions (free c view) = Chain first sessions (port_of view)
IsCounted v access Reports first sessions (busy c view given link) =
    Chain first sessions (port_of view) × (given ≡ access) × (Reports → IsFresh v link)
IsCounted v access Reports first sessions vacant = ⊥

-- the seats from this number on
abbrev pub AllCounted : {L : Type 0} → LinkView L → Access → Type 0 → (ℕ → PortState)
    → List (ℕ × ServedSession) → (number : ℕ) → List (ConnectionSeat L) → Type 0
AllCounted v access Reports first sessions number [] = Unit {0}
AllCounted v access Reports first sessions number (seat ∷ seats) =
    IsCounted v access Reports (first number) (sessions_of number sessions) seat
    × AllCounted v access Reports first sessions (suc number) seats

-- All n links that were accepted since `before` are accounted for: those that are not being served
-- were released, each after its session, which has the number of the seat at whose port it was.
pub record AreAccountedFor {L C M : Type 0}
    (v : LinkView L) (access : Access) (first : ℕ → PortState) (before : Option (Served L C M))
    (n : ℕ) (now : Option (Served L C M)) (seats : List (ConnectionSeat L)) : Type 0 where
  pub links : List L
  pub sessions : List (ℕ × ServedSession)
  pub reported : IsReported before n now links
  pub served : AllZip (IsServed v access (IsSome before)) links sessions
  pub numbered : Every (λ (s : ℕ × ServedSession). IsNumber (length seats) s.0) sessions
  pub count : length links + busy_count seats ≡ n
  pub counted : AllCounted v access (IsSome before) first sessions 1 seats

-- k more links were accepted: where the links before them were accounted for, all are
abbrev pub AccountsForMore : {L C M : Type 0} → LinkView L → Access → ℕ → Option (Served L C M)
    → List (ConnectionSeat L) → Option (Served L C M) → List (ConnectionSeat L) → Type 0
AccountsForMore {L} {C} {M} v access k old seats new seats' =
    (first : ℕ → PortState) (before : Option (Served L C M)) (n : ℕ)
    → AreAccountedFor v access first before n old seats
    → AreAccountedFor v access first before (n + k) new seats'

-- k more links were accepted, each link is accounted for, and net and seats are in order
pub record KeepsAccounts {L C M : Type 0}
    (v : LinkView L) (access : Access) (cell : TableId) (k : ℕ)
    (old : Option (Served L C M)) (seats : List (ConnectionSeat L))
    (new : Option (Served L C M)) (seats' : List (ConnectionSeat L)) : Type 0 where
  pub order : AreInOrder cell new seats'
  pub accounts : AccountsForMore v access k old seats new seats'

-- ---- faults of a net

-- the net counted a fault where it failed, and else none
pub record CountsFaults {T : Type 0} (answer : Result T NetFault) (old new : ℕ) : Type 0 where
  pub failed : IsErrOf answer Failed → CountHasRisen old new
  pub faultless : ¬ (IsErrOf answer Failed) → new ≡ old
  pub later : old ≤ new

-- ---- what an acceptor does

-- No link was accepted: each is accounted for as before, net and seats are in order, and the net
-- counted no fault.
pub record KeepsSeats {L C M : Type 0}
    (v : LinkView L) (access : Access) (cell : TableId)
    (old : Option (Served L C M)) (seats : List (ConnectionSeat L)) (before : ℕ)
    (new : Option (Served L C M)) (seats' : List (ConnectionSeat L)) (after : ℕ) : Type 0 where
  pub accounts : KeepsAccounts v access cell 0 old seats new seats'
  pub faults : after ≡ before

-- Links were accepted, of whose number this is known: each is accounted for, net and seats are in
-- order, and the net counted a fault where it failed, and else none.
pub record AcceptsLinks {L C M : Type 0}
    (v : LinkView L) (access : Access) (cell : TableId)
    (answer : Result Unit NetFault) (IsKnown : ℕ → Type 0)
    (old : Option (Served L C M)) (seats : List (ConnectionSeat L)) (before : ℕ)
    (new : Option (Served L C M)) (seats' : List (ConnectionSeat L)) (after : ℕ) : Type 0 where
  pub count : ℕ
  pub known : IsKnown count
  pub keeps : KeepsAccounts v access cell count old seats new seats'
  pub faults : CountsFaults answer before after
