-- A turn after a meeting, at the port of its pass.
use Rattle.std.proofs.Common.{◌≡◌, sym, ap, ◌∙◌, subst}
use Rattle.std.specs.Prelude.{slice_get, is_some}
use Rattle.turn_cell.specs.Passes.{Continues, cell_id, view_of}
use Rattle.turn_cell.specs.Rule.{Grows}
use Rattle.shared_directory.specs.Desks.{HeldState, entries_of, left_by}
use Rattle.shared_directory.specs.Passes.{IsUpToDate}
use Rattle.shared_directory.proofs.Meeting.{continues_on, has_met}
use Rattle.shared_directory.proofs.Passing.{has_place, turn_as, still_up_to_date, replied}
use Rattle.shared_directory.proofs.turning.take_turn_beside.Goals as goal

pub answer-requires : goal.answer-requires
answer-requires g c =
    let view = view_of c.args.pass in
    let met = view_of c.meet.new.pass in
    let found = c.enter-turn.result.value in
    let same : c.number-number.result ≡ view.number =
    c.number-number.ensures ∙ c.enter-turn.ensures.number ∙ c.meet.ensures.number in
    let continues : Continues (entries_of found) (left_by found view.number) view =
    continues_on (entries_of found) (left_by found view.number) view met c.meet.ensures.number c.meet.ensures.passes
    c.meet.ensures.seen
    (subst (λ n. Continues (entries_of found) (left_by found n) met) c.meet.ensures.number c.enter-turn.ensures.continues) in
    ap (λ (h : HeldState). is_some (slice_get h.last c.number-number.result)) c.state.ensures.value
    ∙ ap (λ n. is_some (slice_get found.last n)) same
    ∙ has_place view found continues c.requires.pass.1

pub returns-clause-pass : goal.returns-clause-pass
returns-clause-pass g c =
    let view = view_of c.args.pass in
    let met = view_of c.meet.new.pass in
    let found = c.enter-turn.result.value in
    let same : c.number-number.result ≡ view.number =
    c.number-number.ensures ∙ c.enter-turn.ensures.number ∙ c.meet.ensures.number in
    let continues : Continues (entries_of found) (left_by found view.number) view =
    continues_on (entries_of found) (left_by found view.number) view met c.meet.ensures.number c.meet.ensures.passes
    c.meet.ensures.seen
    (subst (λ n. Continues (entries_of found) (left_by found n) met) c.meet.ensures.number c.enter-turn.ensures.continues) in
    let value = c.answer.new.self in
    let turn = turn_as c.number-number.result view.number c.state.result.now found value (λ p q. q ≡ p)
    same c.state.ensures.value c.answer.ensures.turn in
    let number = c.leave-pass.ensures.number ∙ c.enter-turn.ensures.number ∙ c.meet.ensures.number in
    let passes = c.leave-pass.ensures.passes ∙ c.enter-turn.ensures.passes ∙ c.meet.ensures.passes in
    let share = c.leave-pass.ensures.share ∙ ap (left_by value) (c.enter-turn.ensures.number ∙ c.meet.ensures.number) in
    let after = view_of c.leave-pass.result.0 in
    let up_to_date = still_up_to_date view found continues c.requires.pass.1 value after (λ p q. q ≡ p) turn number passes share c.leave-pass.ensures.seen in
    (c.leave-pass.ensures.cell ∙ ap cell_id c.enter-turn.ensures.cell, up_to_date)

pub returns-clause-met : goal.returns-clause-met
returns-clause-met g c =
    let view = view_of c.args.pass in
    let met = view_of c.meet.new.pass in
    let found = c.enter-turn.result.value in
    let same : c.number-number.result ≡ view.number =
    c.number-number.ensures ∙ c.enter-turn.ensures.number ∙ c.meet.ensures.number in
    let continues : Continues (entries_of found) (left_by found view.number) view =
    continues_on (entries_of found) (left_by found view.number) view met c.meet.ensures.number c.meet.ensures.passes
    c.meet.ensures.seen
    (subst (λ n. Continues (entries_of found) (left_by found n) met) c.meet.ensures.number c.enter-turn.ensures.continues) in
    let value = c.answer.new.self in
    let turn = turn_as c.number-number.result view.number c.state.result.now found value (λ p q. q ≡ p)
    same c.state.ensures.value c.answer.ensures.turn in
    let number = c.leave-pass.ensures.number ∙ c.enter-turn.ensures.number ∙ c.meet.ensures.number in
    let passes = c.leave-pass.ensures.passes ∙ c.enter-turn.ensures.passes ∙ c.meet.ensures.passes in
    let share = c.leave-pass.ensures.share ∙ ap (left_by value) (c.enter-turn.ensures.number ∙ c.meet.ensures.number) in
    let after = view_of c.leave-pass.result.0 in
    let up_to_date = still_up_to_date view found continues c.requires.pass.1 value after (λ p q. q ≡ p) turn number passes share c.leave-pass.ensures.seen in
    let grows : Grows entries_of left_by c.number-number.result found value =
    subst (λ was. Grows entries_of left_by c.number-number.result was value) c.state.ensures.value c.answer.ensures.grows in
    has_met view met (view_of c.args.other.now) after found value c.number-number.result c.requires.other.1 up_to_date
    c.meet.ensures.seen_beside c.enter-turn.ensures.continues grows c.leave-pass.ensures.seen
    (replied view found continues c.requires.pass.1 value after (λ p q. q ≡ p) turn number passes share c.leave-pass.ensures.seen)

pub returns-clause-other_pass : goal.returns-clause-other_pass
returns-clause-other_pass g c = (
  c.meet.ensures.other_cell,
  subst IsUpToDate (sym c.meet.ensures.other) c.requires.other.1,
)
