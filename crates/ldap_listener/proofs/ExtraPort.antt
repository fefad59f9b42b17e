-- One more port of a directory, beside those of its seats.
use Rattle.std.proofs.Common.{◌≡◌, ℕ, suc, ◌+◌, List, [], ◌∷◌, ◌++◌, length, map, Option, sym, ap, ◌∙◌, subst, arith}
use Rattle.std.proofs.lemmas.List.{length-append, length-map}
use Rattle.atomic_table.specs.Seated.{TableId}
use Rattle.turn_cell.specs.Passes.{view_of}
use Rattle.turn_cell.specs.declared.pass.Pass.{Pass}
use Rattle.sync_io.specs.Net.{Served}
use Rattle.sync_provider.specs.Journal.{JournalledProvider}
use Rattle.sync_provider.specs.Ports.{IsLater, PortState}
use Rattle.sync_provider.specs.declared.journal_note.JournalNote.{JournalNote}
use Rattle.shared_directory.proofs.First.{first_journal}
use Rattle.shared_directory.specs.Desks.{HeldState, NumberedState, first_held, port_in, port_journal}
use Rattle.shared_directory.specs.Passes as passes
use Rattle.shared_directory.specs.Passes.{IsPassOf, directory_id, first_port, made_with, port_of, ports_of}
use Rattle.shared_directory.specs.declared.directory.SharedDirectory.{SharedDirectory}
use Rattle.ldap_session.specs.declared.access.Access.{Access}
use Rattle.ldap_listener.specs.Beside.{AreOpenedBeside, ServesBeside}
use Rattle.ldap_listener.specs.Seats.{KeepsAccounts, ConnectionSeat, busy, free, vacant}
use Rattle.ldap_listener.specs.SeatsOfCode.{seat_of_pass}
use Rattle.ldap_listener.specs.Serving.{AreClosed, AreFirst, HaveLeft}
use Rattle.ldap_listener.specs.Sessions.{LinkView}
use Rattle.ldap_listener.proofs.Closing.{known, seats_served}
use Rattle.ldap_listener.proofs.Opening.{first-known, first-seated}

-- ---- before the first connection

-- passes that were made: all but the last, and the last
record IsParted {g : _} (cell : TableId) (ports : ℕ) (v : JournalledProvider) (number : ℕ) (rest : List (Pass HeldState JournalNote NumberedState g)) (pass : Pass HeldState JournalNote NumberedState g)
    : Type 0 where
  first : passes.AreFirst cell ports v number rest
  pass_is : IsPassOf cell pass
  port : port_of (view_of pass) ≡ first_port (number + length rest) ports v

parted : {g : _} (cell : TableId) (ports : ℕ) (v : JournalledProvider) (number : ℕ) (rest : List (Pass HeldState JournalNote NumberedState g)) (pass : Pass HeldState JournalNote NumberedState g)
    → passes.AreFirst cell ports v number (rest ++ pass ∷ []) → IsParted cell ports v number rest pass
parted cell ports v number [] pass first =
    let at : number ≡ number + 0 = omega arith in
    record { first = tt; pass_is = first.0; port = first.1 ∙ ap (λ n. first_port n ports v) at }
parted cell ports v number (one ∷ rest) pass first =
    let more = parted cell ports v (suc number) rest pass first.2 in
    let at : suc number + length rest ≡ number + length (one ∷ rest) = omega arith in
    record { first = (first.0, first.1, more.first); pass_is = more.pass_is; port = more.port ∙ ap (λ n. first_port n ports v) at }

-- the seats of a directory that was shared, and its last pass
pub opened_beside : {L : Type 0} {g : _} (v : JournalledProvider) (count : ℕ) (directory : SharedDirectory) (made rest : List (Pass HeldState JournalNote NumberedState g))
    (pass : Pass HeldState JournalNote NumberedState g) (seats : List (ConnectionSeat L))
    → ports_of directory ≡ count + 1 → length made ≡ count + 1 → passes.AreFirst (directory_id directory) (count + 1) v 1 made
    → made_with directory ≡ first_held v (count + 1) → made ≡ rest ++ pass ∷ [] → seats ≡ map seat_of_pass rest → AreOpenedBeside v count directory seats pass
opened_beside {L} v count directory made rest pass seats of_ports many first given parts are =
    let cell = directory_id directory in
    let one : count + 1 ≡ suc count = omega arith in
    let all = parted cell (count + 1) v 1 rest pass (subst (λ ps. passes.AreFirst cell (count + 1) v 1 ps) parts first) in
    let short : length rest ≡ count = omega (arith, sym (ap length parts) ∙ many, length-append rest (pass ∷ [])) in
    let number : 1 + length rest ≡ suc count = omega (arith, short) in
    subst (λ (all : List (ConnectionSeat L)). AreOpenedBeside v count directory all pass) (sym are)
    (record {
      count = length-map rest (seat_of_pass {L = L}) ∙ short;
      ports_are = of_ports ∙ one;
      seated = first-seated L cell (count + 1) v 1 rest all.first;
      first = subst (λ n. AreFirst n v 1 (map (seat_of_pass {L = L}) rest)) one (first-known L cell (count + 1) v 1 rest all.first);
      pass_is = all.pass_is;
      port = all.port ∙ (λ i. first_port (number i) (one i) v);
      journal = ap (λ (h : HeldState). port_journal h.now) given ∙ first_journal v;
    })

-- ---- after the last one

left_front : {L : Type 0} (last : NumberedState) (seats : List (ConnectionSeat L)) (seat : ConnectionSeat L) → HaveLeft last (seats ++ seat ∷ []) → HaveLeft last seats × HaveLeft last (seat ∷ [])
left_front last [] seat left = (tt, left)
left_front last (free c view ∷ seats) seat left =
    let more = left_front last seats seat left.1 in
    ((left.0, more.0), more.1)
left_front last (busy c view access link ∷ seats) seat left = absurd left
left_front last (vacant ∷ seats) seat left = absurd left

-- all connections, and what was done at the last port
pub serves_beside : {L C M : Type 0} {g : _} (v : LinkView L) (access : Access) (count : ℕ) (old new : JournalledProvider) (directory : SharedDirectory) (k : ℕ) (before after : Option (Served L C M))
    (first seats : List (ConnectionSeat L)) (pass back : Pass HeldState JournalNote NumberedState g) (Did : (one other : PortState) → Type 0)
    → AreOpenedBeside old count directory first pass → KeepsAccounts v access (directory_id directory) k before first after seats → length seats ≡ length first
    → AreClosed directory (seats ++ seat_of_pass back ∷ []) new → IsPassOf (directory_id directory) back → Did (port_of (view_of pass)) (port_of (view_of back))
    → ServesBeside v access count old new k before after Did
serves_beside v access count old new directory k before after first seats pass back Did opened keeps many closed home did =
    let both = left_front closed.last seats (seat_of_pass back) closed.left in
    let own = known (view_of back) home.1 in
    record {
      last = closed.last;
      provider = closed.provider;
      served = seats_served v access count (suc count) old directory k before after first seats closed.last opened.count opened.ports_are opened.first opened.journal keeps many both.0 closed.numbers;
      left = port_of (view_of back);
      did = subst (λ (p : PortState). Did p (port_of (view_of back))) opened.port did;
      later = subst (λ n. IsLater (port_of (view_of back)) (port_in n (port_of (view_of back)).ports closed.last)) (sym own.0)
          (subst (λ n. IsLater (port_of (view_of back)) (port_in (view_of back).number n closed.last)) (sym own.1) both.1.0);
    }
