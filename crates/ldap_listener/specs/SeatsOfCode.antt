-- Seats, as the code has them.
use Rattle.turn_cell.specs.declared.pass.Pass.{Pass}
use Rattle.turn_cell.specs.Passes.{cell_of, view_of}
use Rattle.sync_provider.specs.declared.journal_note.JournalNote.{JournalNote}
use Rattle.shared_directory.specs.Desks.{HeldState, NumberedState}
use Rattle.ldap_listener.specs.Seats.{ConnectionSeat, busy, free, vacant}
use Rattle.ldap_listener.specs.declared.seat.Seat.{Seat}
use Rattle.ldap_listener.specs.declared.seat.Seat.TheVariants.{Busy, Free, Vacant}

abbrev pub seat_of : {L : Type 0} → Seat L → ConnectionSeat L
seat_of (Free pass) = free (cell_of pass) (view_of pass)
seat_of (Busy child) =
    busy (cell_of child.promise.pass.value) (view_of child.promise.pass.value)
    child.promise.access.value child.promise.link.value
seat_of Vacant = vacant

abbrev pub seat_of_pass : {L : Type 0} {g : _} → Pass HeldState JournalNote NumberedState g
    → ConnectionSeat L
seat_of_pass pass = free (cell_of pass) (view_of pass)
