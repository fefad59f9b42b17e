use Rattle.std.proofs.Common.{map}
use Rattle.shared_directory.specs.Passes.{directory_id}
use Rattle.ldap_listener.specs.Seats.{KeepsSeats}
use Rattle.ldap_listener.specs.SeatsOfCode.{seat_of}
use Rattle.ldap_listener.specs.Sessions.{seen_by}
use Rattle.ldap_listener.proofs.collecting.wait_for_seat.Given as goal

-- no link was accepted so far
abbrev pub invariant-loop : goal.invariant-loop
invariant-loop g l =
    KeepsSeats (seen_by g.N.Link.Source.bytes_left g.N.Link.Source.bytes_read g.N.Link.Sink.bytes_held g.N.Link.Source.read_fault_count g.N.Link.Sink.write_fault_count)
    l.server.access.now (directory_id l.server.directory.now) (g.N.Net.served l.fn.net) (map seat_of l.fn.seats) (g.N.Net.net_fault_count l.fn.net)
    (g.N.Net.served l.net) (map seat_of l.seats) (g.N.Net.net_fault_count l.net)
