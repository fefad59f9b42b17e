-- What a turn is at the port of its pass.
use Rattle.std.proofs.Common.{ap, ◌∙◌}
use Rattle.turn_cell.specs.Passes.{cell_id, view_of}
use Rattle.std.specs.Prelude.{slice_get, is_some}
use Rattle.shared_directory.specs.Desks.{HeldState, left_by}
use Rattle.shared_directory.proofs.Passing.{has_place, turn_as, still_up_to_date, replied}
use Rattle.shared_directory.proofs.turning.take_turn.Goals as goal

pub answer-answer-requires : goal.answer-answer-requires
answer-answer-requires g c =
    let view = view_of c.args.pass in
    let found = c.enter-turn.result.value in
    ap (λ (h : HeldState). is_some (slice_get h.last c.number-number.result)) c.state.ensures.value
    ∙ ap (λ n. is_some (slice_get found.last n)) (c.number-number.ensures ∙ c.enter-turn.ensures.number)
    ∙ has_place view found c.enter-turn.ensures.continues c.requires.1

pub returns-clause-pass : goal.returns-clause-pass
returns-clause-pass g c =
    let view = view_of c.args.pass in
    let found = c.enter-turn.result.value in
    let value = c.answer-answer.new.self in
    let replies = g.C.Call.replies c.args.call c.answer-answer.result in
    let turn = turn_as c.number-number.result view.number c.state.result.now found value replies
    (c.number-number.ensures ∙ c.enter-turn.ensures.number) c.state.ensures.value c.answer-answer.ensures.turn in (
      c.leave-pass.ensures.cell ∙ ap cell_id c.enter-turn.ensures.cell,
      still_up_to_date view found c.enter-turn.ensures.continues c.requires.1 value (view_of c.leave-pass.result.0) replies turn
          (c.leave-pass.ensures.number ∙ c.enter-turn.ensures.number) (c.leave-pass.ensures.passes ∙ c.enter-turn.ensures.passes)
          (c.leave-pass.ensures.share ∙ ap (left_by value) c.enter-turn.ensures.number) c.leave-pass.ensures.seen,
    )

pub returns-clause-replies : goal.returns-clause-replies
returns-clause-replies g c =
    let view = view_of c.args.pass in
    let found = c.enter-turn.result.value in
    let value = c.answer-answer.new.self in
    let replies = g.C.Call.replies c.args.call c.answer-answer.result in
    let turn = turn_as c.number-number.result view.number c.state.result.now found value replies
    (c.number-number.ensures ∙ c.enter-turn.ensures.number) c.state.ensures.value c.answer-answer.ensures.turn in
    replied view found c.enter-turn.ensures.continues c.requires.1 value (view_of c.leave-pass.result.0) replies turn
    (c.leave-pass.ensures.number ∙ c.enter-turn.ensures.number) (c.leave-pass.ensures.passes ∙ c.enter-turn.ensures.passes)
    (c.leave-pass.ensures.share ∙ ap (left_by value) c.enter-turn.ensures.number) c.leave-pass.ensures.seen
