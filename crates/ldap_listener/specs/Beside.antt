-- A directory whose connections were served, while one more port of it was used by another.
use Rattle.std.specs.Prelude.{◌≡◌, ℕ, suc, List, length, Option}
use Rattle.sync_io.specs.Net.{Served}
use Rattle.sync_provider.specs.Journal.{JournalledProvider, journal_in}
use Rattle.sync_provider.specs.Ports.{PortState, IsLater}
use Rattle.turn_cell.specs.Passes.{view_of}
use Rattle.turn_cell.specs.declared.pass.Pass.{Pass}
use Rattle.sync_provider.specs.declared.journal_note.JournalNote.{JournalNote}
use Rattle.shared_directory.specs.Desks.{HeldState, NumberedState, port_in, port_journal}
use Rattle.shared_directory.specs.Passes.{IsPassOf, directory_id, first_port, made_with, port_of, ports_of}
use Rattle.shared_directory.specs.declared.directory.SharedDirectory.{SharedDirectory}
use Rattle.ldap_session.specs.declared.access.Access.{Access}
use Rattle.ldap_listener.specs.Seats.{AllSeated, ConnectionSeat}
use Rattle.ldap_listener.specs.Serving.{AreFirst, SeatsServed}
use Rattle.ldap_listener.specs.Sessions.{LinkView}

-- A directory goes on from this provider: each of its ports but the last has a free seat, and the
-- pass of the last stands beside them.
pub record AreOpenedBeside {L : Type 0} {g : _} (v : JournalledProvider) (seats : ℕ)
    (directory : SharedDirectory) (free : List (ConnectionSeat L))
    (pass : Pass HeldState JournalNote NumberedState g) : Type 0 where
  pub count : length free ≡ seats
  pub ports_are : ports_of directory ≡ suc seats
  pub seated : AllSeated (directory_id directory) free
  pub first : AreFirst (suc seats) v 1 free
  pub pass_is : IsPassOf (directory_id directory) pass
  pub port : port_of (view_of pass) ≡ first_port (suc seats) (suc seats) v
  pub journal : port_journal (made_with directory).now ≡ journal_in v

-- n links were accepted, and each was released after its session, which has the number of one of
-- the ports of the seats. At the port after them, which no session had, this was done. One journal
-- goes on from that of the provider: each entry since has the number of one of all these ports.
pub record ServesBeside {L C M : Type 0}
    (v : LinkView L) (access : Access) (seats : ℕ) (old new : JournalledProvider)
    (n : ℕ) (before after : Option (Served L C M))
    (Did : (first left : PortState) → Type 0) : Type 0 where
  pub last : NumberedState
  pub provider : last.provider ≡ new
  pub served : SeatsServed v access seats (suc seats) old last n before after
  pub left : PortState
  pub did : Did (first_port (suc seats) (suc seats) old) left
  pub later : IsLater left (port_in left.number left.ports last)
