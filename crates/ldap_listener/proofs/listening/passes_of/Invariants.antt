use Rattle.std.proofs.Common.{◌≡◌, ◌+◌, ◌≤◌, ◌++◌, map, length, vec_len, vec_capacity}
use Rattle.std.specs.Vec.Iter.{into_iter_items, into_iter_len}
use Rattle.ldap_listener.specs.Seats.{AllFree}
use Rattle.ldap_listener.specs.SeatsOfCode.{seat_of, seat_of_pass}
use Rattle.ldap_listener.proofs.listening.passes_of.Given as goal

-- the passes of the seats so far, and there is room for the others
abbrev pub invariant-loop-seat : goal.invariant-loop-seat
invariant-loop-seat g l = record {
  free : AllFree (map seat_of (into_iter_items l.seat-iterator));
  done : map seat_of_pass l.passes.items ++ map seat_of (into_iter_items l.seat-iterator) ≡ map seat_of l.fn.seats.items;
  room : vec_len l.passes + length (into_iter_items l.seat-iterator) ≤ vec_capacity l.passes;
  capacity : vec_capacity l.passes ≡ vec_capacity l.fn.room;
  left : into_iter_len l.seat-iterator ≡ length (into_iter_items l.seat-iterator);
}
