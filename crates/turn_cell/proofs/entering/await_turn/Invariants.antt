use Rattle.std.proofs.Common.{◌≡◌}
use Rattle.turn_cell.proofs.entering.await_turn.Given as goal

-- the seat still waits
abbrev pub invariant-loop : goal.invariant-loop
invariant-loop g l = record {
  table : l.seat.table_id ≡ l.fn.seat.table_id;
  seat : l.seat.me ≡ l.fn.seat.me;
}
