use Rattle.turn_cell.specs.Passes.{cell_id}
use Rattle.desk_tests.proofs.Dealing.{all_dealt}
use Rattle.desk_tests.proofs.passing.share.Goals as goal

pub returns-clause-passes : goal.returns-clause-passes
returns-clause-passes g c =
    let made = c.in-Ok.made in
    all_dealt (cell_id made.0.cell) c.args.seats c.args.provider 1 made.1.items c.in-Ok.ensures.passes
