use Rattle.std.proofs.Common.{◌≡◌, ◌+◌, IsTrue, length}
use Rattle.turn_cell.specs.Passes.{cell_id, cell_of, view_of, mine}
use Rattle.base_tests.proofs.adding.add_all.Given as goal

-- the values so far are added
abbrev pub invariant-loop-value : goal.invariant-loop-value
invariant-loop-value g l = record {
  cell : cell_of l.pass ≡ cell_id l.cell;
  number : (view_of l.pass).number ≡ (view_of l.initial.pass).number;
  mine : IsTrue l.all → length (mine (view_of l.pass)) ≡ length (mine (view_of l.initial.pass)) + l.value-index;
}
