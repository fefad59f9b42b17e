use Rattle.std.proofs.Common.{◌<◌, ℕ, map}
use Rattle.shared_directory.specs.Passes.{directory_id}
use Rattle.ldap_listener.specs.Seats.{IsFreeAt, KeepsSeats}
use Rattle.ldap_listener.specs.SeatsOfCode.{seat_of}
use Rattle.ldap_listener.specs.Sessions.{seen_by}
use Rattle.ldap_listener.proofs.collecting.free_all.Given as goal

-- the seats before this place are free
abbrev pub invariant-loop-place : goal.invariant-loop-place
invariant-loop-place g l = record {
  keeps :
      KeepsSeats (seen_by g.N.Link.Source.bytes_left g.N.Link.Source.bytes_read g.N.Link.Sink.bytes_held g.N.Link.Source.read_fault_count g.N.Link.Sink.write_fault_count)
      l.server.access.now (directory_id l.server.directory.now) (g.N.Net.served l.fn.net) (map seat_of l.fn.seats) (g.N.Net.net_fault_count l.fn.net)
      (g.N.Net.served l.net) (map seat_of l.seats) (g.N.Net.net_fault_count l.net);
  free : (k : ℕ) → k < l.place → IsFreeAt (map seat_of l.seats) k;
}
