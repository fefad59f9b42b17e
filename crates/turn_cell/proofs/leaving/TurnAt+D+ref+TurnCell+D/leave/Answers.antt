use Rattle.std.proofs.Common.{◌≡◌, ◌-◌, length, [], ◌∷◌, ◌++◌, map, ap, ◌∙◌, arith, length-append}
use Rattle.turn_cell.specs.Journals.{places, next_places}
use Rattle.turn_cell.specs.Rule.{first_pass, idle}
use Rattle.turn_cell.specs.Steps.{updated}
use Rattle.turn_cell.proofs.Placing.{places-grown}
use Rattle.turn_cell.proofs.leaving.TurnAt+D+ref+TurnCell+D.leave.Goals as goal

pub returns-clause-mine : goal.returns-clause-mine
returns-clause-mine g c =
    let self = c.args.self in
    let turn = c.requires.turn in
    let grows = c.requires.grows in
    let J = g.D.Journalled.journal in
    let S = g.D.Journalled.share in
    let before = J self.found.value in
    let more : length grows.added ≡ c.count-seen.result - self.before =
    omega (arith, c.count-seen.ensures, turn.before, length-append before grows.added, ap length grows.entries) in
    let end : c.end_turn.new.seat.me ≡ (idle (updated J S self.value (first_pass self.seat.me.0.passes) ∷ []), []) =
    c.end_turn.ensures.seat ∙ ap (λ m. (idle (map (updated J S self.value) m.0.passes), [])) turn.seat in
    rw end (rw turn.number
    (places-grown self.number before (J self.value) grows.added grows.entries grows.own
    ∙ ap (λ n. places self.number before ++ next_places (length before) n) more))
