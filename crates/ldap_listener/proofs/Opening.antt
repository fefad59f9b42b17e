-- Seats before the first connection.
use Rattle.std.proofs.Common.{◌≡◌, ℕ, suc, ◌≤◌, List, [], ◌∷◌, length, map, Option, Some, None, refl, sym, ap, ◌∙◌, subst, arith}
use Rattle.std.specs.Prelude.{IfSome, IsSome}
use Rattle.std.proofs.lemmas.List.{append-nil, length-map}
use Rattle.atomic_table.specs.Seated.{TableId}
use Rattle.turn_cell.specs.declared.pass.Pass.{Pass}
use Rattle.sync_io.specs.Net.{Served}
use Rattle.sync_provider.specs.Journal.{JournalledProvider}
use Rattle.sync_provider.specs.declared.journal_note.JournalNote.{JournalNote}
use Rattle.shared_directory.proofs.First.{first_journal}
use Rattle.shared_directory.specs.Desks.{HeldState, NumberedState, first_held, port_journal}
use Rattle.shared_directory.specs.Passes as passes
use Rattle.shared_directory.specs.Passes.{directory_id, first_port, made_with, ports_of}
use Rattle.shared_directory.specs.declared.directory.SharedDirectory.{SharedDirectory}
use Rattle.ldap_session.specs.declared.access.Access.{Access}
use Rattle.ldap_listener.specs.Seats.{AllCounted, AllFree, AllSeated, AreAccountedFor, AreInOrder, HasRoom, IsReported, ConnectionSeat, busy, busy_count, free, vacant}
use Rattle.ldap_listener.specs.SeatsOfCode.{seat_of_pass}
use Rattle.ldap_listener.specs.Serving.{AreFirst, AreOpened}
use Rattle.ldap_listener.specs.Sessions.{LinkView}
use Rattle.ldap_listener.proofs.Accounts.{busy-free}

module _ (L : Type 0) {g : _} where
  -- the seats of passes that were made
  pub first-seated : (cell : TableId) (ports : ℕ) (v : JournalledProvider) (number : ℕ) (made : List (Pass HeldState JournalNote NumberedState g))
      → passes.AreFirst cell ports v number made → AllSeated {L = L} cell (map (seat_of_pass {L = L}) made)
  first-seated cell ports v number [] first = tt
  first-seated cell ports v number (pass ∷ made) first = (first.0, first-seated cell ports v (suc number) made first.2)

  -- passes with which a directory is made are those of its first seats
  pub first-known : (cell : TableId) (ports : ℕ) (v : JournalledProvider) (number : ℕ) (made : List (Pass HeldState JournalNote NumberedState g))
      → passes.AreFirst cell ports v number made → AreFirst {L = L} ports v number (map (seat_of_pass {L = L}) made)
  first-known cell ports v number [] first = tt
  first-known cell ports v number (pass ∷ made) first = (first.1, first-known cell ports v (suc number) made first.2)

-- the seats of a directory that was shared
pub opened : {L : Type 0} {g : _} (v : JournalledProvider) (ports : ℕ) (directory : SharedDirectory) (made : List (Pass HeldState JournalNote NumberedState g)) (seats : List (ConnectionSeat L))
    → ports_of directory ≡ ports → length made ≡ ports → passes.AreFirst (directory_id directory) ports v 1 made
    → made_with directory ≡ first_held v ports → seats ≡ map seat_of_pass made → AreOpened v ports directory seats
opened {L} v ports directory made seats of_ports count first given are =
    subst (AreOpened v ports directory) (sym are)
    (record {
      count = length-map made (seat_of_pass {L = L}) ∙ count;
      ports_are = of_ports;
      seated = first-seated L (directory_id directory) ports v 1 made first;
      first = first-known L (directory_id directory) ports v 1 made first;
      journal = ap (λ (h : HeldState). port_journal h.now) given ∙ first_journal v;
    })

module _ {L : Type 0} where
  first-free : (ports : ℕ) (v : JournalledProvider) (number : ℕ) (seats : List (ConnectionSeat L)) → AreFirst ports v number seats → AllFree seats
  first-free ports v number [] first = tt
  first-free ports v number (free cell view ∷ seats) first = (refl, first-free ports v (suc number) seats first.1)
  first-free ports v number (busy cell view access link ∷ seats) first = absurd first
  first-free ports v number (vacant ∷ seats) first = absurd first

  -- no port has a session yet
  first-counted : (view : LinkView L) (access : Access) (Reports : Type 0) (ports : ℕ) (v : JournalledProvider) (number : ℕ) (seats : List (ConnectionSeat L))
      → AreFirst ports v number seats → AllCounted view access Reports (λ n. first_port n ports v) [] number seats
  first-counted view access Reports ports v number [] first = tt
  first-counted view access Reports ports v number (free cell seen ∷ seats) first =
      (first.0, first-counted view access Reports ports v (suc number) seats first.1)
  first-counted view access Reports ports v number (busy cell seen given link ∷ seats) first = absurd first
  first-counted view access Reports ports v number (vacant ∷ seats) first = absurd first

-- nothing was accepted since
reported-none : {L C M : Type 0} (net : Option (Served L C M)) → IsReported net 0 net []
reported-none None = refl
reported-none (Some s) = (refl, omega arith, sym (append-nil s.released), record { callers = refl; retired = refl; gone = refl; to_come = refl })

-- the accounts before the first connection
pub accounts-first : {L C M : Type 0} (view : LinkView L) (access : Access) (ports : ℕ) (v : JournalledProvider) (net : Option (Served L C M)) (seats : List (ConnectionSeat L))
    → AreFirst ports v 1 seats → AreAccountedFor view access (λ n. first_port n ports v) net 0 net seats
accounts-first view access ports v net seats first =
    let none : busy_count seats ≡ 0 = busy-free seats (first-free ports v 1 seats first) in
    record {
      links = [];
      sessions = [];
      reported = reported-none net;
      served = tt;
      numbered = tt;
      count = omega (arith, none);
      counted = first-counted view access (IsSome net) ports v 1 seats first;
    }

-- where all seats are free, no more links need room than were released
free-room : {L C M : Type 0} (net : Option (Served L C M)) (seats : List (ConnectionSeat L)) → AllFree seats → IfSome net (λ s. length s.released ≤ s.accepted) → HasRoom net seats
free-room None seats all within = tt
free-room (Some s) seats all within =
    let none = busy-free seats all in
    omega (arith, none, within)

-- net and seats before the first connection
pub first-order : {L C M : Type 0} (cell : TableId) (ports : ℕ) (v : JournalledProvider) (net : Option (Served L C M)) (seats : List (ConnectionSeat L))
    → AllSeated cell seats → AreFirst ports v 1 seats → IfSome net (λ s. length s.released ≤ s.accepted) → AreInOrder cell net seats
first-order cell ports v net seats seated first within = record { seated = seated; room = free-room net seats (first-free ports v 1 seats first) within }
