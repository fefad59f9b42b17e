use Rattle.std.proofs.Common.{◌≡◌, ◌+◌, ◌≤◌, ◌++◌, map, length, vec_len, vec_capacity}
use Rattle.std.specs.Vec.Iter.{into_iter_items, into_iter_len}
use Rattle.ldap_listener.specs.SeatsOfCode.{seat_of, seat_of_pass}
use Rattle.ldap_listener.proofs.listening.free_seats.Given as goal

-- the passes so far have seats, and there is room for the others
abbrev pub invariant-loop-pass : goal.invariant-loop-pass
invariant-loop-pass g l = record {
  done : map seat_of l.seats.items ++ map seat_of_pass (into_iter_items l.pass-iterator) ≡ map seat_of_pass l.fn.passes.items;
  room : vec_len l.seats + length (into_iter_items l.pass-iterator) ≤ vec_capacity l.seats;
  left : into_iter_len l.pass-iterator ≡ length (into_iter_items l.pass-iterator);
}
