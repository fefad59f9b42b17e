use Rattle.std.proofs.Common.{◌≡◌, [], ◌++◌, map}
use Rattle.turn_cell.specs.Rule.{idle}
use Rattle.turn_cell.specs.Passes.{view_of}
use Rattle.turn_cell.proofs.closing.gather.Given as goal

-- the seat has the passes so far
abbrev pub invariant-loop-pass : goal.invariant-loop-pass
invariant-loop-pass g l = record {
  table : l.seat.table_id ≡ l.fn.seat.table_id;
  seat : l.seat.me ≡ (idle (l.fn.seat.me.0.passes ++ map view_of l.yielded), []);
  all : l.fn.passes.items ≡ l.yielded ++ l.pass-iterator.rest.items;
}
