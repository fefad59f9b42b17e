use Rattle.turn_cell.specs.Turns.{value_of, found_of, number_of}
use Rattle.base_tests.proofs.Growing.{unchanged}
use Rattle.base_tests.proofs.adding.look.Goals as goal

pub leave-requires-clause-grows : goal.leave-requires-clause-grows
leave-requires-clause-grows g c =
    let turn = c.enter-turn.result in
    unchanged (number_of turn) (found_of turn) (value_of turn) c.enter-turn.ensures.found
