-- Seats after the last connection.
use Rattle.std.proofs.Common.{◌≡◌, ℕ, zero, suc, ◌+◌, ◌-◌, ◌<◌, Bool, true, false, nat_eq, List, [], ◌∷◌, ◌++◌, length, map, Option, Some, None, refl, sym, ap, ◌∙◌, subst, arith, add-zero}
use Rattle.std.specs.List.{AllZip}
use Rattle.std.proofs.lemmas.List.{length-map}
use Rattle.std.specs.Prelude.{IsSome, if◌then◌else◌}
use Rattle.atomic_table.specs.Seated.{TableId}
use Rattle.turn_cell.specs.Journals.{Every, HasGrown, IsNumber}
use Rattle.turn_cell.specs.Passes.{view_of}
use Rattle.turn_cell.specs.declared.pass.Pass.{Pass}
use Rattle.sync_io.specs.Net.{Served}
use Rattle.sync_provider.specs.Journal.{JournalledProvider, journal_in}
use Rattle.sync_provider.specs.Ports.{Journal, PortState, IsLater}
use Rattle.sync_provider.specs.declared.journal_note.JournalNote.{JournalNote}
use Rattle.shared_directory.specs.Desks.{HeldState, NumberedState, port_in, port_journal}
use Rattle.shared_directory.specs.declared.directory.SharedDirectory.{SharedDirectory}
use Rattle.shared_directory.specs.Passes.{DirectoryView, IsGivenBack, IsPassOf, IsUpToDate, directory_id, first_port, journal_left, made_with, port_left, port_of, ports_of}
use Rattle.ldap_session.specs.declared.access.Access.{Access}
use Rattle.ldap_server.specs.Session.{fresh}
use Rattle.ldap_server.proofs.SamePorts.{IsSamePort, drops_same, runs_same, same_here, same_then}
use Rattle.ldap_listener.specs.Seats.{AllCounted, AllFree, AllSeated, AreAccountedFor, IsServed, KeepsAccounts, ConnectionSeat, busy, busy_count, free, vacant}
use Rattle.ldap_listener.specs.SeatsOfCode.{seat_of_pass}
use Rattle.ldap_listener.specs.Serving.{AreClosed, AreFirst, AreOpened, HaveLeft, PortServed, SeatsServed, ServesAll}
use Rattle.ldap_listener.specs.Sessions.{Chain, IsSession, LinkView, ServedSession, sessions_of}
use Rattle.ldap_listener.proofs.Accounts.{busy-free}
use Rattle.ldap_listener.proofs.Opening.{accounts-first}

-- ---- passes that are given back

module _ (L : Type 0) {g : _} where
  -- the passes of seats of this cell are passes of it
  seated-passes : (cell : TableId) (back : List (Pass HeldState JournalNote NumberedState g)) → AllSeated {L = L} cell (map (seat_of_pass {L = L}) back)
      → Every (λ pass. IsPassOf cell pass) back
  seated-passes cell [] seated = tt
  seated-passes cell (pass ∷ back) seated = (seated.0, seated-passes cell back seated.1)

  left-seats : (last : NumberedState) (back : List (Pass HeldState JournalNote NumberedState g))
      → Every (λ view. IsLater (port_of view) (port_in view.number view.seats last)) (map view_of back) → HaveLeft {L = L} last (map (seat_of_pass {L = L}) back)
  left-seats last [] left = tt
  left-seats last (pass ∷ back) left = (left.0, left-seats last back left.1)

module _ {L : Type 0} {g : _} where
  -- passes that the free seats give back are of the directory
  pub passes-seated : (cell : TableId) (back : List (Pass HeldState JournalNote NumberedState g)) (seats : List (ConnectionSeat L))
      → map (seat_of_pass {L = L}) back ≡ seats → AllSeated cell seats → Every (λ pass. IsPassOf cell pass) back
  passes-seated cell back seats are seated = seated-passes L cell back (subst (AllSeated cell) (sym are) seated)

  -- they are as many as the seats
  pub as-many : (back : List (Pass HeldState JournalNote NumberedState g)) (seats : List (ConnectionSeat L))
      → map (seat_of_pass {L = L}) back ≡ seats → length back ≡ length seats
  as-many back seats are = sym (length-map back (seat_of_pass {L = L})) ∙ ap length are

  -- a directory that gave its provider back for them is closed
  pub closed : (directory : SharedDirectory) (back : List (Pass HeldState JournalNote NumberedState g)) (seats : List (ConnectionSeat L)) (v : JournalledProvider)
      → map (seat_of_pass {L = L}) back ≡ seats → IsGivenBack directory (map view_of back) v → AreClosed directory seats v
  closed directory back seats v are given =
      subst (λ all. AreClosed directory all v) are
      (record { last = given.last; provider = given.provider; left = left-seats L given.last back given.ports; numbers = given.numbers })

-- ---- the port of a seat

-- a session leaves its port the same one
session_same : (access : Access) (s : ServedSession) → IsSession access s → IsSamePort s.before s.after
session_same access s is =
    same_then s.before is.left.port s.after (runs_same (fresh s.before access) is.left s.events s.sent refl is.runs) (drops_same is.left.port s.after is.drops)

chain_same : (access : Access) (first : PortState) (sessions : List ServedSession) (last : PortState)
    → Every (IsSession access) sessions → Chain first sessions last → IsSamePort first last
chain_same access first [] last all chain = subst (λ p. IsSamePort first p) (sym chain) (same_here first)
chain_same access first (s ∷ sessions) last all chain =
    same_then first s.after last (subst (λ p. IsSamePort p s.after) chain.0 (session_same access s all.0)) (chain_same access s.after sessions last all.1 chain.1)

-- all sessions of released links are sessions of LDAP, those of one port among them
sessions_served : {L : Type 0} (v : LinkView L) (access : Access) (Reports : Type 0) (number : ℕ) (links : List L) (sessions : List (ℕ × ServedSession))
    → AllZip (IsServed v access Reports) links sessions → Every (IsSession access) (sessions_of number sessions)
sessions_served v access Reports number [] [] all = tt
sessions_served v access Reports number [] (s ∷ sessions) all = absurd all
sessions_served v access Reports number (link ∷ links) [] all = absurd all
sessions_served v access Reports number (link ∷ links) (s ∷ sessions) all =
    step (nat_eq s.0 number) (sessions_served v access Reports number links sessions all.1)
  where
    step : (own : Bool) → Every (IsSession access) (sessions_of number sessions)
        → Every (IsSession access) ((if own then s.1 ∷ [] else []) ++ sessions_of number sessions)
    step true rest = (all.0.0, rest)
    step false rest = rest

-- what the port of a pass learns by what it left
known_left : (number ports : ℕ) (seen : Journal) (share : List NumberedState) → journal_left share ≡ Some seen
    → ((port_left number ports share).number ≡ number) × ((port_left number ports share).ports ≡ ports)
known_left number ports seen [] none = absurd (let wrong : None ≡ Some seen = none in cc)
known_left number ports seen (last ∷ more) some = (refl, refl)

-- the port of a pass that is up to date has its number, and knows how many there are
pub known : (view : DirectoryView) → IsUpToDate view → ((port_of view).number ≡ view.number) × ((port_of view).ports ≡ view.seats)
known view up = known_left view.number view.seats view.seen view.share up

module _ {L : Type 0} (v : LinkView L) (access : Access) (Reports : Type 0) (ports : ℕ) (old : JournalledProvider)
    (links : List L) (sessions : List (ℕ × ServedSession)) (all : AllZip (IsServed v access Reports) links sessions) (cell : TableId) (last : NumberedState) where
  -- the port with this number was that of the seat
  port_served : (number : ℕ) (c : TableId) (view : DirectoryView) → IsUpToDate view → Chain (first_port number ports old) (sessions_of number sessions) (port_of view)
      → IsLater (port_of view) (port_in view.number view.seats last) → PortServed number ports old (sessions_of number sessions) last
  port_served number c view up chain later =
      let same = chain_same access (first_port number ports old) (sessions_of number sessions) (port_of view) (sessions_served v access Reports number links sessions all) chain in
      let own : view.number ≡ number = sym (known view up).0 ∙ same.number in
      let of_ports : view.seats ≡ ports = sym (known view up).1 ∙ same.ports in
      let P : ℕ → ℕ → Type 0 = λ n m. IsLater (port_of view) (port_in n m last) in
      record { left = port_of view; chain = chain; later = subst (λ m. P number m) of_ports (subst (λ n. P n view.seats) own later) }

  -- the sessions of each port came one after another
  pub ports_served : (number : ℕ) (seats : List (ConnectionSeat L)) (i : ℕ) → i < length seats
      → AllSeated cell seats → AllCounted v access Reports (λ n. first_port n ports old) sessions number seats → HaveLeft last seats
      → PortServed (number + i) ports old (sessions_of (number + i) sessions) last
  ports_served number [] i low seated counted left = absurd (omega (arith, low))
  ports_served number (free c view ∷ seats) zero low seated counted left =
      subst (λ n. PortServed n ports old (sessions_of n sessions) last) (sym (add-zero number))
      (port_served number c view seated.0.1 counted.0 left.0)
  ports_served number (free c view ∷ seats) (suc i) low seated counted left =
      let at : suc number + i ≡ number + suc i = omega arith in
      subst (λ n. PortServed n ports old (sessions_of n sessions) last) at
      (ports_served (suc number) seats i (omega (arith, low)) seated.1 counted.1 left.1)
  ports_served number (busy c view given link ∷ seats) i low seated counted left = absurd left
  ports_served number (vacant ∷ seats) i low seated counted left = absurd left

-- seats that were left are free
pub left-free : {L : Type 0} (last : NumberedState) (seats : List (ConnectionSeat L)) → HaveLeft last seats → AllFree seats
left-free last [] left = tt
left-free last (free c view ∷ seats) left = (refl, left-free last seats left.1)
left-free last (busy c view access link ∷ seats) left = absurd left
left-free last (vacant ∷ seats) left = absurd left

-- ---- all connections

-- so all links that were accepted were served over one journal, at the ports of these seats
pub seats_served : {L C M : Type 0} (v : LinkView L) (access : Access) (count ports : ℕ) (old : JournalledProvider) (directory : SharedDirectory)
    (k : ℕ) (before after : Option (Served L C M)) (first seats : List (ConnectionSeat L)) (last : NumberedState)
    → length first ≡ count → ports_of directory ≡ ports → AreFirst ports old 1 first → port_journal (made_with directory).now ≡ journal_in old
    → KeepsAccounts v access (directory_id directory) k before first after seats → length seats ≡ length first → HaveLeft last seats
    → HasGrown (ports_of directory) (port_journal (made_with directory).now) (port_journal last)
    → SeatsServed v access count ports old last k before after
seats_served v access count ports old directory k before after first seats last many of_ports opened journal keeps same left numbers =
    let accounts : AreAccountedFor v access (λ n. first_port n ports old) before k after seats =
    subst (λ n. AreAccountedFor v access (λ number. first_port number ports old) before n after seats) (omega arith)
    (keeps.accounts (λ n. first_port n ports old) before 0 (accounts-first v access ports old before first opened)) in
    let none : busy_count seats ≡ 0 = busy-free seats (left-free last seats left) in
    let length_is : length seats ≡ count = same ∙ many in
    record {
      links = accounts.links;
      sessions = accounts.sessions;
      reported = accounts.reported;
      served = accounts.served;
      numbered = subst (λ n. Every (λ (s : ℕ × ServedSession). IsNumber n s.0) accounts.sessions) length_is accounts.numbered;
      count = omega (arith, accounts.count, none);
      journal = subst (λ n. HasGrown n (journal_in old) (port_journal last)) of_ports
          (subst (λ j. HasGrown (ports_of directory) j (port_journal last)) journal numbers);
      ports_served = λ number low high.
          let at : 1 + (number - 1) ≡ number = omega (arith, low) in
          subst (λ n. PortServed n ports old (sessions_of n accounts.sessions) last) at
          (ports_served v access (IsSome before) ports old accounts.links accounts.sessions accounts.served (directory_id directory) last 1 seats (number - 1)
          (omega (arith, low, high, length_is)) keeps.order.seated accounts.counted left);
    }

-- the same where each port has a seat
pub serves_all : {L C M : Type 0} (v : LinkView L) (access : Access) (ports : ℕ) (old new : JournalledProvider) (directory : SharedDirectory)
    (k : ℕ) (before after : Option (Served L C M)) (first seats : List (ConnectionSeat L))
    → AreOpened old ports directory first → KeepsAccounts v access (directory_id directory) k before first after seats → length seats ≡ length first → AreClosed directory seats new
    → ServesAll v access ports old new k before after
serves_all v access ports old new directory k before after first seats opened keeps count closed = record {
  last = closed.last;
  provider = closed.provider;
  served = seats_served v access ports ports old directory k before after first seats closed.last opened.count opened.ports_are opened.first opened.journal keeps count closed.left closed.numbers;
}
